-- The first name with a text: the one with the lowest number, whether or not a record uses it.
use Rattle.std.specs.Prelude.{ℕ, suc, List, [], ◌∷◌, map, Some, None, if◌then◌else◌}
use Rattle.std.specs.Prelude as code
use Rattle.std.proofs.Math.Option.{Option, none, some}
use Rattle.basics.specs.Text.{Text, same}
use Rattle.basics.specs.Lists.{up_to}
use Rattle.book.specs.Book.{Book, names, size, name_text}

unfoldable pub later : Option ℕ → Option ℕ
later none = none
later (some n) = some (suc n)

-- the first place where a text stands
unfoldable pub position : Text → List Text → Option ℕ
position t [] = none
position t (x ∷ xs) = if same x t then some 0 else later (position t xs)

-- the names' texts, by their numbers
unfoldable pub texts : Book → List Text
texts b = map (name_text b) (up_to 0 (size b names))

unfoldable pub first_name : Book → Text → Option ℕ
first_name b t = position t (texts b)

-- the number, or another where there is none
unfoldable pub number_or : ℕ → Option ℕ → ℕ
number_or other none = other
number_or other (some n) = n

-- what the code's option holds
unfoldable pub maybe : {A : Type 0} → code.Option A → Option A
maybe None = none
maybe (Some x) = some x

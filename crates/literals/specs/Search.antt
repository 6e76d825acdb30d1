-- The search for a literal by its name's text: where it ends, and how many literal terms it has gone through. A book's terms are given
-- by what each says if it is a literal, `(program b).literals`, and the levels by those of the literal places.
use Rattle.std.specs.Prelude.{ℕ, suc, Bool, true, false, not, ◌&&◌, List, [], ◌∷◌, eqb, get_or, take}
use Rattle.std.specs.Prelude.{Option as Answer, Some, None}
use Rattle.std.proofs.Math.Option.{Option, none, some, map}
use Rattle.basics.specs.Text.{Text}
use Rattle.book.specs.RExpr.{Literal}
use Rattle.rsolver.specs.LevelState.{has_name}
use Rattle.literals.specs.declared.Search.{Search}

-- term k is declared and a literal of that name
unfoldable pub named_at : Text → List (Option Literal) → (levels : List ℕ) → ℕ → Bool
named_at name ls levels k = not (eqb (get_or levels k 0) 0) && has_name name (get_or ls k none)

-- term 0 if it is so, or else one of those behind it
abbrev pub here : Bool → Option ℕ → Option ℕ
here true behind = some 0
here false behind = map suc behind

-- the lowest such term
unfoldable pub first_named : Text → List (Option Literal) → (levels : List ℕ) → Option ℕ
first_named name [] levels = none
first_named name (l ∷ ls) [] = none
first_named name (l ∷ ls) (n ∷ levels) = here (not (eqb n 0) && has_name name l) (first_named name ls levels)

unfoldable pub literal_count : List (Option Literal) → ℕ
literal_count [] = 0
literal_count (none ∷ ls) = literal_count ls
literal_count (some l ∷ ls) = suc (literal_count ls)

-- literal terms up to the one found, itself counted; all of them where none is
unfoldable pub gone_through : Option ℕ → List (Option Literal) → ℕ
gone_through none ls = literal_count ls
gone_through (some k) ls = literal_count (take (suc k) ls)

abbrev pub is_some : Option ℕ → Bool
is_some none = false
is_some (some k) = true

pub record Searched : Type 0 where
  pub found : Option ℕ
  pub gone : ℕ

abbrev pub searched : Option ℕ → ℕ → Searched
searched f n = record { found = f; gone = n }

unfoldable pub search : Text → List (Option Literal) → (levels : List ℕ) → Searched
search name ls levels = searched (first_named name ls levels) (gone_through (first_named name ls levels) ls)

abbrev pub is_found : Searched → Bool
is_found r = is_some r.found

-- ---- what the code answers
abbrev pub found_value : Answer ℕ → Option ℕ
found_value (Some k) = some k
found_value None = none

abbrev pub search_value : Search → Searched
search_value r = searched (found_value r.found) r.gone

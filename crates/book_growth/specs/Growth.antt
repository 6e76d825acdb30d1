-- Books that grow: each section's body is the old one and then the new.
use Rattle.std.specs.Prelude.{ℕ, ◌+◌, ◌*◌, ◌<◌, ◌≡◌, Bool, List, [], ◌∷◌, ◌++◌, leb, length, get_or}
use Rattle.basics.specs.Lists.{all_below}
use Rattle.book.specs.Book.{Book, size}
use Rattle.book.specs.Laid.{section_at, section_count}
use Rattle.book_layout.specs.Layout.{Bodies, body, count_of, assembled}

-- the bytes to append; types, functions, axioms and patterns stay
pub record Addition : Type 0 where
  pub letters : List ℕ
  pub names : List ℕ
  pub constants : List ℕ
  pub terms : List ℕ
  pub contexts : List ℕ
  pub lists : List ℕ

abbrev pub addition : (new_letters new_names new_constants new_terms new_contexts new_lists : List ℕ) → Addition
addition l n c t x e = record { letters = l; names = n; constants = c; terms = t; contexts = x; lists = e }

unfoldable pub added : Addition → Bodies
added a s =
    get_or (a.letters ∷ a.names ∷ [] ∷ a.constants ∷ [] ∷ [] ∷ [] ∷ a.terms ∷ a.contexts ∷ a.lists ∷ []) s.number []

unfoldable pub grown_body : Book → Addition → Bodies
grown_body b a s = body b s ++ added a s

unfoldable pub grown : Book → Addition → Book
grown b a = assembled (grown_body b a)

unfoldable pub nothing : Addition
nothing = record { letters = []; names = []; constants = []; terms = []; contexts = []; lists = [] }

-- one addition and then another
infixl 60 ◌⊕◌
unfoldable pub ◌⊕◌ : Addition → Addition → Addition
a ⊕ c =
    record {
      letters = a.letters ++ c.letters;
      names = a.names ++ c.names;
      constants = a.constants ++ c.constants;
      terms = a.terms ++ c.terms;
      contexts = a.contexts ++ c.contexts;
      lists = a.lists ++ c.lists;
    }

-- what is appended is whole records
pub record Whole (a : Addition) : Type 0 where
  pub records : (n : ℕ) → n < section_count → length (added a (section_at n)) ≡ (section_at n).size * count_of (added a) (section_at n)

-- refusal 3 of the book as it would become, by counts: before anything is laid out
unfoldable pub grows_by : Book → Addition → ℕ → Bool
grows_by b a n = leb (size b (section_at n) + count_of (added a) (section_at n)) (section_at n).most

unfoldable pub grows_within : Book → Addition → Bool
grows_within b a = all_below section_count (grows_by b a)

-- Refusal 5: a child is smaller than its parent, and no term is referred to twice in the whole book.
use Rattle.std.specs.Prelude.{ℕ, ◌+◌, List, [], ◌∷◌, ◌++◌, map, Bool, true, not, ◌&&◌, eqb, ltb, if◌then◌else◌}
use Rattle.basics.specs.Lists.{join_below, member}
use Rattle.book.specs.Book.{Book, axioms, patterns, terms, contexts, lists, size, field, no_term}
use Rattle.book.specs.Decode.{Kind, boolean, integer, custom_literal, id, built_in, application, if_then_else, let_expr, quantifier_expr, kind_of}

-- a term that is referred to, and the number that it has to be below: its parent's, or for an axiom and a context the number of terms
pub record Reference : Type 0 where
  pub bound : ℕ
  pub term : ℕ

abbrev pub reference : ℕ → ℕ → Reference
reference p t = record { bound = p; term = t }

abbrev pub term_of : Reference → ℕ
term_of r = r.term

module _ (b : Book) where
  unfoldable pub entry_reference : (bound start j : ℕ) → List Reference
  entry_reference bound start j = reference bound (field b lists (start + j) 0) ∷ []

  unfoldable pub range_references : (bound start count : ℕ) → List Reference
  range_references bound start count = join_below count (entry_reference bound start)

  unfoldable pub pattern_references : (bound p : ℕ) → List Reference
  pattern_references bound p = range_references bound (field b patterns p 0) (field b patterns p 1)

  -- the terms of a pattern count once for each time that a quantifier lists it
  unfoldable pub listed_references : (bound start j : ℕ) → List Reference
  listed_references bound start j = pattern_references bound (field b lists (start + j) 0)

  unfoldable pub kind_references : Kind → ℕ → List Reference
  kind_references boolean t = []
  kind_references integer t = []
  kind_references custom_literal t = []
  kind_references id t = []
  kind_references built_in t = range_references t (field b terms t 2) (field b terms t 3)
  kind_references application t = range_references t (field b terms t 2) (field b terms t 3)
  kind_references if_then_else t =
      reference t (field b terms t 1) ∷ reference t (field b terms t 2) ∷ reference t (field b terms t 3) ∷ []
  kind_references let_expr t = reference t (field b terms t 2) ∷ reference t (field b terms t 3) ∷ []
  kind_references quantifier_expr t =
      join_below (field b terms t 5) (listed_references t (field b terms t 4)) ++ (reference t (field b terms t 6) ∷ [])

  unfoldable pub term_references : ℕ → List Reference
  term_references t = kind_references (kind_of (field b terms t 0)) t

  unfoldable pub axiom_references : ℕ → List Reference
  axiom_references i = if eqb (field b axioms i 0) no_term then [] else reference (size b terms) (field b axioms i 0) ∷ []

  unfoldable pub context_references : ℕ → List Reference
  context_references i = reference (size b terms) (field b contexts i 1) ∷ []

  unfoldable pub references : List Reference
  references =
      join_below (size b terms) term_references
      ++ join_below (size b axioms) axiom_references
      ++ join_below (size b contexts) context_references

unfoldable pub all_smaller : List Reference → Bool
all_smaller [] = true
all_smaller (r ∷ rs) = ltb r.term r.bound && all_smaller rs

-- no number stands twice in the list
unfoldable pub no_twice : List ℕ → Bool
no_twice [] = true
no_twice (x ∷ xs) = not (member x xs) && no_twice xs

unfoldable pub is_forest : Book → Bool
is_forest b = all_smaller (references b) && no_twice (map term_of (references b))

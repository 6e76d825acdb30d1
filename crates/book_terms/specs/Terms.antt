-- Refusal 4, for terms: a known kind, each field that the kind uses in range, the others 0.
use Rattle.std.specs.Prelude.{ℕ, ◌+◌, ◌-◌, Bool, ◌&&◌, eqb, ltb, length}
use Rattle.basics.specs.Lists.{all_below}
use Rattle.book.specs.Book.{Book, names, constants, functions, patterns, terms, size, field}
use Rattle.book.specs.Decode.{Kind, boolean, integer, custom_literal, id, built_in, application, if_then_else, let_expr, quantifier_expr, kinds, kind_of}
use Rattle.book_fields.specs.Fields.{within, type_limit, is_range}

-- a term's fields behind its kind
abbrev pub field_count : ℕ
field_count = 6

module _ (b : Book) where
  unfoldable pub is_zero : (t used j : ℕ) → Bool
  is_zero t used j = eqb (field b terms t (used + 1 + j)) 0

  -- the term uses its first `used` fields, and the others are 0
  unfoldable pub uses : (t used : ℕ) → Bool
  uses t used = all_below (field_count - used) (is_zero t used)

  unfoldable pub kind_in_range : Kind → ℕ → Bool
  kind_in_range boolean t = ltb (field b terms t 1) 2 && uses t 1
  kind_in_range integer t = uses t 2
  kind_in_range custom_literal t = within b names (field b terms t 1) && ltb (field b terms t 2) (type_limit b) && uses t 2
  kind_in_range id t = within b constants (field b terms t 1) && uses t 1
  kind_in_range built_in t =
      within b names (field b terms t 1) && is_range b (size b terms) (field b terms t 2) (field b terms t 3) && uses t 3
  kind_in_range application t =
      within b functions (field b terms t 1) && is_range b (size b terms) (field b terms t 2) (field b terms t 3) && uses t 3
  kind_in_range if_then_else t =
      within b terms (field b terms t 1) && within b terms (field b terms t 2) && within b terms (field b terms t 3) && uses t 3
  kind_in_range let_expr t =
      within b constants (field b terms t 1) && within b terms (field b terms t 2) && within b terms (field b terms t 3) && uses t 3
  kind_in_range quantifier_expr t =
      ltb (field b terms t 1) 2
      && is_range b (size b constants) (field b terms t 2) (field b terms t 3)
      && is_range b (size b patterns) (field b terms t 4) (field b terms t 5)
      && within b terms (field b terms t 6)

  unfoldable pub term_in_range : ℕ → Bool
  term_in_range t = ltb (field b terms t 0) (length kinds) && kind_in_range (kind_of (field b terms t 0)) t

  unfoldable pub terms_in_range : Bool
  terms_in_range = all_below (size b terms) term_in_range

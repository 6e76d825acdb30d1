-- Variables, literals, numbers and words.
use Rattle.std.specs.Prelude.{if◌then◌else◌}
use Prim.Native.Nat.{ℕ, zero, suc, ◌+◌, ◌*◌, ◌^◌, ◌<◌}
use mathlib.Core.Path.{◌≡◌, refl, ◌∙◌}
use mathlib.Core.List.{List, ◌++◌}
use mathlib.Core.Bool.{not}
use lib.Dec.{eqb}
use borrow.Author.Tests.{ne_eqb}
use Rattle.basics.specs.Text.{Text, ascii}
use Rattle.basics.specs.Basics.{int2_string, int64}
use Rattle.basics.specs.Write.{MOST, WroteAt}
use Rattle.basics.proofs.Places.{at_none}
use Rattle.book.specs.Book.{Book, constants, functions, terms, field, name_text}
use Rattle.book.specs.Decode.{type_of, constant_of, literal_of}
use Rattle.solver_expr.specs.SolverExpr.{type_to_string}
use Rattle.rsolver.specs.Listing.{COMMA, bound_var_to_string, custom_literal_to_string}
use Rattle.listing_terms.specs.Texts.{lead, integer_text, operator_text}

module _ (b : Book) where
  -- v: type
  pub var_text : (v : ℕ) {s : Text} {k : ℕ} → s ≡ name_text b (field b constants v 0) → k ≡ field b constants v 1
      → s ++ ascii ": " ++ type_to_string (type_of b k) ≡ bound_var_to_string (constant_of b v)
  unfolding bound_var_to_string constant_of
  var_text v es ek = rw (es, ek)

  -- s:type
  pub literal_text : (t : ℕ) {s : Text} {k : ℕ} → s ≡ name_text b (field b terms t 1) → k ≡ field b terms t 2
      → s ++ ascii ":" ++ type_to_string (type_of b k) ≡ custom_literal_to_string (literal_of b t)
  unfolding custom_literal_to_string literal_of
  literal_text t es ek = rw (es, ek)

  -- field 1 as a flag: a Boolean's value, and whether a quantifier is universal
  pub flag_unset : (t : ℕ) (x y : Text) {v : ℕ} → v ≡ field b terms t 1 → v ≡ 0 → y ≡ (if not (eqb (field b terms t 1) 0) then x else y)
  flag_unset t x y {v} e z = rw (← e, z)

  pub flag_set : (t : ℕ) (x y : Text) {v : ℕ} → v ≡ field b terms t 1 → (v ≡ 0 → ⊥) → x ≡ (if not (eqb (field b terms t 1) 0) then x else y)
  flag_set t x y {v} e z = rw (← e, ne_eqb v 0 z)

  pub built_in_name : (t : ℕ) {k : ℕ} {s : Text} → k ≡ field b terms t 0 → k ≡ 4 → s ≡ name_text b (field b terms t 1) → s ≡ operator_text b t
  unfolding operator_text
  built_in_name t ek e h = h ∙ rw (← ek, e)

  pub function_name : (t : ℕ) {k f : ℕ} {s : Text} → k ≡ field b terms t 0 → (k ≡ 4 → ⊥) → f ≡ field b terms t 1 → s ≡ name_text b (field b functions f 0) → s ≡ operator_text b t
  unfolding operator_text
  function_name t {k} ek e ef h = h ∙ rw (← ek, ne_eqb k 4 e, ← ef)

  pub integer-text : (t : ℕ) {bits : ℕ} → bits ≡ field b terms t 1 + 2 ^ 32 * field b terms t 2 → int2_string (int64 bits) ≡ integer_text b t
  unfolding integer_text
  integer-text t e = rw e

-- what stands before a part
pub no_lead : {i : ℕ} {at : ℕ} {o : List ℕ} → i ≡ 0 → at < MOST + 1 → WroteAt (lead i) at o o at
unfolding lead
no_lead {i} {at} {o} e l = rw e (at_none at o l)

pub some_lead : (i : ℕ) → (i ≡ 0 → ⊥) → ascii ", " ≡ lead i
unfolding lead COMMA
some_lead zero h = absurd (h refl)
some_lead (suc i) h = refl

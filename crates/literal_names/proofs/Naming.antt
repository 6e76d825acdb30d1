-- The name of a literal of the book, and its parts.
use Prim.Native.Nat.{ℕ, zero, suc, ◌+◌, ◌-◌, ◌<◌}
use native.Mathlib.Omega.{arith}
use mathlib.Core.Path.{◌≡◌, refl, sym, ap, ◌∙◌}
use mathlib.Core.Bool.{Bool, false, ◌&&◌}
use lib.ListN.{length}
use Rattle.basics.specs.Text.{Text, ascii, same}
use Rattle.book.specs.Book.{Book, names, types, terms, size, field, name_text}
use Rattle.book.specs.Laid.{section_at, Holds}
use Rattle.book.specs.Decode.{type_of, literal_of}
use Rattle.book_test.specs.Promise.{Promise, GoodLiteral}
use Rattle.book_test.proofs.Names.{name-length}
use Rattle.solver_expr.specs.SolverExpr.{type_to_string}
use Rattle.solver_expr.specs.Lowering.{literal_name}
use Rattle.literal_names.specs.Names.{barred}
use Rattle.literal_names.proofs.Pairs.{longer, one_colon, one_type}

module _ (b : Book) where
  pub name_is : (t : ℕ) {s typ : Text} → s ≡ name_text b (field b terms t 1) → typ ≡ type_to_string (type_of b (field b terms t 2)) → barred s typ ≡ literal_name (literal_of b t)
  unfolding barred literal_name literal_of
  name_is t e f = rw (e, f)

  -- ---- the text of a type
  pub string_bool : {k : ℕ} → 0 ≡ k → ascii "bool" ≡ type_to_string (type_of b k)
  unfolding type_of type_to_string
  string_bool e = rw (← e)

  pub string_int : {k : ℕ} → 1 ≡ k → ascii "int" ≡ type_to_string (type_of b k)
  unfolding type_of type_to_string
  string_int e = rw (← e)

  pub string_user : (n : ℕ) {k : ℕ} → suc (suc n) ≡ k → name_text b (field b types n 0) ≡ type_to_string (type_of b k)
  unfolding type_of type_to_string
  string_user n e = rw (← e)

  pub user_type : {n k : ℕ} → k < 2 + size b types → suc (suc n) ≡ k → n < size b types
  user_type g e = omega (arith, g, e)

  -- ---- names and their records
  pub reads_record : Promise b → {n : ℕ} (i : ℕ) → i < 2 → n < size b names → (1 < 10) × Holds b (section_at 1) n i
  reads_record P i l h = (omega arith, record { laid = P.names_laid; here = h; within = omega arith })

  pub one_place : (n m : ℕ) → field b names n 0 ≡ field b names m 0 → field b names n 1 ≡ field b names m 1 → name_text b n ≡ name_text b m
  unfolding name_text
  one_place n m e f = rw (e, f)

  pub user_length : Promise b → (k : ℕ) {j n r : ℕ} → j < 2 + size b types → suc (suc k) ≡ j → n ≡ field b types k 0 → r ≡ field b names n 1 → r ≡ length (type_to_string (type_of b j))
  user_length P k g t e f =
      f ∙ ap (λ (j : ℕ). field b names j 1) e ∙ sym (name-length b P _ (P.type_name k (user_type g t))) ∙ ap length (string_user k t)

  pub lengths : Promise b → (k : ℕ) {n x y z : ℕ} → GoodLiteral b k → n ≡ field b terms k 1 → x ≡ field b names n 1 → y ≡ field b terms k 2 → z ≡ length (type_to_string (type_of b y))
      → x + z ≡ length (name_text b (field b terms k 1)) + length (type_to_string (type_of b (field b terms k 2)))
  lengths P k g e f h i = omega (arith, f ∙ ap (λ (j : ℕ). field b names j 1) e ∙ sym (name-length b P _ g.name), i ∙ ap (λ (j : ℕ). length (type_to_string (type_of b j))) h)

  -- ---- a literal against a name
  pub by_name : (k : ℕ) (s typ : Text) → typ ≡ type_to_string (type_of b (field b terms k 2)) → same (barred s typ) (literal_name (literal_of b k)) ≡ same s (name_text b (field b terms k 1))
  by_name k s typ e = ap (same (barred s typ)) (sym (name_is k refl e)) ∙ one_type s typ (name_text b (field b terms k 1))

  pub by_length : (k : ℕ) (s typ : Text) → (length s + length typ ≡ length (name_text b (field b terms k 1)) + length (type_to_string (type_of b (field b terms k 2))) → ⊥) → false ≡ same (barred s typ) (literal_name (literal_of b k))
  by_length k s typ h = longer s typ _ _ h ∙ ap (same (barred s typ)) (name_is k refl refl)

  -- the colons stand at one place, and what is before them differs
  pub by_front : (k : ℕ) (s typ : Text) → length s ≡ length (name_text b (field b terms k 1)) → same s (name_text b (field b terms k 1)) ≡ false → false ≡ same (barred s typ) (literal_name (literal_of b k))
  by_front k s typ e h = sym (ap (same (barred s typ)) (sym (name_is k refl refl)) ∙ one_colon s typ _ _ e ∙ ap (λ (t : Bool). t && same typ (type_to_string (type_of b (field b terms k 2)))) h)

-- From the promise to what the readers of the book ask.
use Prim.Native.Nat.{ℕ, ◌+◌, ◌-◌, ◌<◌, ◌≤◌}
use native.Mathlib.Omega.{arith}
use mathlib.Core.Path.{◌≡◌}
use Rattle.book.specs.Book.{Book, letters, names, types, constants, functions, axioms, patterns, terms, contexts, lists, size, field}
use Rattle.book.specs.Laid.{section_at, Laid, Holds}
use Rattle.book_test.specs.Promise.{Promise}
use Rattle.records.specs.Named.{Named}

module _ {b : Book} (P : Promise b) where
  pub reads_name : (n : ℕ) → n < size b names → Laid b letters × Holds b names n 1 × (field b names n 0 + field b names n 1 ≤ size b letters)
  reads_name n h = (P.letters_laid, record { laid = P.names_laid; here = h; within = omega arith }, (P.name n h).ends)

  -- ---- the call field(book, section, k, i)
  pub reads_type : {k : ℕ} → k < size b types → (2 < 10) × Holds b (section_at 2) k 0
  reads_type h = (omega arith, record { laid = P.types_laid; here = h; within = omega arith })

  pub reads_constant : {k : ℕ} (i : ℕ) → i < 2 → k < size b constants → (3 < 10) × Holds b (section_at 3) k i
  reads_constant i l h = (omega arith, record { laid = P.constants_laid; here = h; within = omega arith })

  pub reads_function : {k : ℕ} (i : ℕ) → i < 6 → k < size b functions → (4 < 10) × Holds b (section_at 4) k i
  reads_function i l h = (omega arith, record { laid = P.functions_laid; here = h; within = omega arith })

  pub reads_axiom : {k : ℕ} (i : ℕ) → i < 3 → k < size b axioms → (5 < 10) × Holds b (section_at 5) k i
  reads_axiom i l h = (omega arith, record { laid = P.axioms_laid; here = h; within = omega arith })

  pub reads_pattern : {k : ℕ} (i : ℕ) → i < 2 → k < size b patterns → (6 < 10) × Holds b (section_at 6) k i
  reads_pattern i l h = (omega arith, record { laid = P.patterns_laid; here = h; within = omega arith })

  pub reads_term : {k : ℕ} (i : ℕ) → i < 7 → k < size b terms → (7 < 10) × Holds b (section_at 7) k i
  reads_term i l h = (omega arith, record { laid = P.terms_laid; here = h; within = omega arith })

  pub reads_list : {k : ℕ} → k < size b lists → (9 < 10) × Holds b (section_at 9) k 0
  reads_list h = (omega arith, record { laid = P.lists_laid; here = h; within = omega arith })

  -- ---- the call named(book, section, k, i)
  pub named-type : {k : ℕ} → k < size b types → Named b 2 k 0
  named-type {k} h = record { promise = P; known = omega arith; holds = (reads_type h).1; inside = P.type_name k h }

  pub named_constant : {k : ℕ} → k < size b constants → Named b 3 k 0
  named_constant {k} h = record { promise = P; known = omega arith; holds = (reads_constant 0 (omega arith) h).1; inside = (P.constant k h).name }

  pub named_function : {k : ℕ} → k < size b functions → Named b 4 k 0
  named_function {k} h = record { promise = P; known = omega arith; holds = (reads_function 0 (omega arith) h).1; inside = (P.function k h).name }

  pub named_term : {t : ℕ} → t < size b terms → field b terms t 1 < size b names → Named b 7 t 1
  named_term {t} h n = record { promise = P; known = omega arith; holds = (reads_term 1 (omega arith) h).1; inside = n }

-- A term of an accepted book by its kind's number, as the code reads it.
use Prim.Native.Nat.{ℕ, zero, suc, ◌<◌}
use native.Mathlib.Omega.{arith}
use mathlib.Core.Path.{◌≡◌, refl, ◌∙◌}
use Rattle.book.specs.Book.{Book, constants, terms, size, field}
use Rattle.book.specs.Decode.{kind_of, term_by, term_over, term}
use Rattle.book_test.specs.Promise.{Promise, GoodKind, GoodLiteral, GoodBuiltIn, GoodApplication, GoodIfThenElse, GoodLet, GoodQuantifier}
use Rattle.book_test.proofs.TermLaw.{term-over}

-- one of the nine
pub each_kind : {A : Type 0} (k : ℕ) → k < 9 → (k ≡ 0 → A) → (k ≡ 1 → A) → (k ≡ 2 → A) → (k ≡ 3 → A) → (k ≡ 4 → A) → (k ≡ 5 → A) → (k ≡ 6 → A) → (k ≡ 7 → A) → (k ≡ 8 → A) → A
each_kind zero l h0 h1 h2 h3 h4 h5 h6 h7 h8 = h0 refl
each_kind (suc zero) l h0 h1 h2 h3 h4 h5 h6 h7 h8 = h1 refl
each_kind (suc (suc zero)) l h0 h1 h2 h3 h4 h5 h6 h7 h8 = h2 refl
each_kind (suc (suc (suc zero))) l h0 h1 h2 h3 h4 h5 h6 h7 h8 = h3 refl
each_kind (suc (suc (suc (suc zero)))) l h0 h1 h2 h3 h4 h5 h6 h7 h8 = h4 refl
each_kind (suc (suc (suc (suc (suc zero))))) l h0 h1 h2 h3 h4 h5 h6 h7 h8 = h5 refl
each_kind (suc (suc (suc (suc (suc (suc zero)))))) l h0 h1 h2 h3 h4 h5 h6 h7 h8 = h6 refl
each_kind (suc (suc (suc (suc (suc (suc (suc zero))))))) l h0 h1 h2 h3 h4 h5 h6 h7 h8 = h7 refl
each_kind (suc (suc (suc (suc (suc (suc (suc (suc zero)))))))) l h0 h1 h2 h3 h4 h5 h6 h7 h8 = h8 refl
each_kind (suc (suc (suc (suc (suc (suc (suc (suc (suc k))))))))) l h0 h1 h2 h3 h4 h5 h6 h7 h8 = absurd (omega arith)

module _ {b : Book} (P : Promise b) {t : ℕ} (here : t < size b terms) {k : ℕ} (kind : k ≡ field b terms t 0) where
  pub known : k < 9
  known = rw kind (P.term t here).known

  pub shape : term b t ≡ term_by b (kind_of k) (term b) t
  unfolding term_over
  shape = term-over b P t here ∙ rw (← kind)

  good : GoodKind (kind_of k) b t
  good = rw kind (P.term t here).fields

  -- ---- what the record has
  pub good_literal : k ≡ 2 → GoodLiteral b t
  unfolding GoodKind kind_of
  good_literal e = rw e at good

  pub good_id : k ≡ 3 → field b terms t 1 < size b constants
  unfolding GoodKind kind_of
  good_id e = rw e at good

  pub good_built_in : k ≡ 4 → GoodBuiltIn b t
  unfolding GoodKind kind_of
  good_built_in e = rw e at good

  pub good_application : k ≡ 5 → GoodApplication b t
  unfolding GoodKind kind_of
  good_application e = rw e at good

  pub good_if : k ≡ 6 → GoodIfThenElse b t
  unfolding GoodKind kind_of
  good_if e = rw e at good

  pub good_let : k ≡ 7 → GoodLet b t
  unfolding GoodKind kind_of
  good_let e = rw e at good

  pub good_quantifier : k ≡ 8 → GoodQuantifier b t
  unfolding GoodKind kind_of
  good_quantifier e = rw e at good

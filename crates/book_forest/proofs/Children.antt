-- What a term refers to, by the code of its kind.
use Prim.Native.Nat.{ℕ, zero, suc, ◌+◌, ◌<◌, ◌≤◌}
use native.Mathlib.Omega.{arith}
use native.Mathlib.Decide.{ℕ_discrete}
use mathlib.Core.Path.{◌≡◌, refl, sym, ap, ◌∙◌}
use mathlib.Core.Bool.{true}
use mathlib.Core.List.{[]}
use denote.Enum.Bare.{sameb, same_true}
use Rattle.book.specs.Book.{Book, terms, lists, size, field}
use Rattle.book.specs.Decode.{kind_of}
use Rattle.book.specs.contracts.kind.Kind.{the_type}
use Rattle.book.specs.declared.kind.Kind.{Kind}
use Rattle.book.specs.declared.kind.Kind.TheVariants.{Boolean, Integer, CustomLiteral, Id, BuiltIn, Application, IfThenElse, LetExpr, QuantifierExpr}
use Rattle.book.specs.Kinds.{number_of, meant}
use Rattle.book.proofs.KindNumbers.{kind_meant}
use Rattle.book_forest.specs.Forest.{range_references, kind_references, term_references}
use Rattle.book_forest.specs.Followed.{Followed}

module _ (b : Book) (t : ℕ) where
  -- an application, built-in or not
  pub application_children : (4 ≤ field b terms t 0) → field b terms t 0 ≤ 5 → range_references b t (field b terms t 2) (field b terms t 3) ≡ term_references b t
  unfolding term_references kind_references kind_of
  application_children l h = by (ℕ_discrete (field b terms t 0) 4)
    where
      by : Dec (field b terms t 0 ≡ 4) → range_references b t (field b terms t 2) (field b terms t 3) ≡ kind_references b (kind_of (field b terms t 0)) t
      by (yes s) = rw s
      by (no s) = let f : field b terms t 0 ≡ 5 = omega arith in rw f

  pub application_ends : Followed b → t < size b terms → 4 ≤ field b terms t 0 → field b terms t 0 ≤ 5 → field b terms t 2 + field b terms t 3 ≤ size b lists
  application_ends F h l u = by (ℕ_discrete (field b terms t 0) 4)
    where
      by : Dec (field b terms t 0 ≡ 4) → field b terms t 2 + field b terms t 3 ≤ size b lists
      by (yes s) = F.built_in t h s
      by (no s) = let f : field b terms t 0 ≡ 5 = omega arith in F.application t h f

  -- by the kind that the code makes of its number
  pub by_kind : (k : Kind) {n : ℕ} → n ≡ field b terms t 0 → number_of k ≡ n → kind_references b (meant k) t ≡ term_references b t
  unfolding term_references
  by_kind k e h = ap (λ x. kind_references b x t) (sym (kind_meant k (h ∙ e)))

  -- by the kind that the code compared it with
  pub by_same : (k j : Kind) {n : ℕ} → n ≡ field b terms t 0 → number_of k ≡ n → true ≡ sameb the_type k j → kind_references b (meant j) t ≡ term_references b t
  by_same k j e h s = by_kind j e (rw (same_true the_type tt k j (sym s)) at h)

  -- any other number that is no kind with children
  childless : (k : ℕ) → (k ≡ 4 → ⊥) → (k ≡ 5 → ⊥) → (k ≡ 6 → ⊥) → (k ≡ 7 → ⊥) → (k ≡ 8 → ⊥) → kind_references b (kind_of k) t ≡ []
  unfolding kind_references kind_of
  childless zero n4 n5 n6 n7 n8 = refl
  childless (suc zero) n4 n5 n6 n7 n8 = refl
  childless (suc (suc zero)) n4 n5 n6 n7 n8 = refl
  childless (suc (suc (suc zero))) n4 n5 n6 n7 n8 = refl
  childless (suc (suc (suc (suc zero)))) n4 n5 n6 n7 n8 = absurd (n4 refl)
  childless (suc (suc (suc (suc (suc zero))))) n4 n5 n6 n7 n8 = absurd (n5 refl)
  childless (suc (suc (suc (suc (suc (suc zero)))))) n4 n5 n6 n7 n8 = absurd (n6 refl)
  childless (suc (suc (suc (suc (suc (suc (suc zero))))))) n4 n5 n6 n7 n8 = absurd (n7 refl)
  childless (suc (suc (suc (suc (suc (suc (suc (suc zero)))))))) n4 n5 n6 n7 n8 = absurd (n8 refl)
  childless (suc (suc (suc (suc (suc (suc (suc (suc (suc k))))))))) n4 n5 n6 n7 n8 = refl

  pub no_children : (k : ℕ) → k ≡ field b terms t 0 → (k ≡ 4 → ⊥) → (k ≡ 5 → ⊥) → (k ≡ 6 → ⊥) → (k ≡ 7 → ⊥) → (k ≡ 8 → ⊥) → term_references b t ≡ []
  unfolding term_references
  no_children k e n4 n5 n6 n7 n8 = rw (← e) (childless k n4 n5 n6 n7 n8)

  pub leaf_children : (k : ℕ) → k ≡ field b terms t 0 → {n : ℕ} → n ≡ k → n < 4 → term_references b t ≡ []
  leaf_children k e q l = no_children k e (λ f. omega arith) (λ f. omega arith) (λ f. omega arith) (λ f. omega arith) (λ f. omega arith)

  pub kindless : (k : ℕ) → k ≡ field b terms t 0 → 9 ≤ k → term_references b t ≡ []
  kindless k e l = no_children k e (λ f. omega arith) (λ f. omega arith) (λ f. omega arith) (λ f. omega arith) (λ f. omega arith)

-- a kind without children has one of the first four numbers
pub leaf_kind : (k : Kind) → (k ≡ BuiltIn → ⊥) → (k ≡ Application → ⊥) → (k ≡ IfThenElse → ⊥) → (k ≡ LetExpr → ⊥) → (k ≡ QuantifierExpr → ⊥) → number_of k < 4
leaf_kind Boolean a b c d e = omega arith
leaf_kind Integer a b c d e = omega arith
leaf_kind CustomLiteral a b c d e = omega arith
leaf_kind Id a b c d e = omega arith
leaf_kind BuiltIn a b c d e = absurd (a refl)
leaf_kind Application a b c d e = absurd (b refl)
leaf_kind IfThenElse a b c d e = absurd (c refl)
leaf_kind LetExpr a b c d e = absurd (d refl)
leaf_kind QuantifierExpr a b c d e = absurd (e refl)

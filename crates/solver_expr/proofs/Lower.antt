-- The S-expression of a term, by its kind.
use Rattle.std.specs.Prelude.{if◌then◌else◌}
use Prim.Native.Nat.{ℕ, zero, suc, ◌+◌, ◌<◌}
use native.Mathlib.Omega.{arith}
use mathlib.Core.Path.{◌≡◌, refl, sym, ap, ◌∙◌, subst}
use mathlib.Core.List.{List, [], ◌∷◌, map}
use mathlib.Core.Bool.{Bool, true, false, not, ◌&&◌}
use lib.Dec.{eqb}
use lib.ListN.{length}
use borrow.Author.Tests.{eqb-true, eq-eqb}
use Rattle.basics.specs.Text.{Text, ascii}
use Rattle.basics.proofs.Bool.{and_both}
use Rattle.book.specs.Book.{Book, terms, size, field, entries}
use Rattle.book.specs.RExpr.{RExpr}
use Rattle.book.specs.Decode.{Kind, quantifier_expr, kinds, kind_of, constant_of, to_rexprs, args_of, term_by, term_over, term}
use Rattle.book_test.specs.Promise.{Promise, GoodKind}
use Rattle.book_test.proofs.TermLaw.{term-over}
use Rattle.book_test.proofs.TermKinds.{each_kind}
use Rattle.solver_expr.specs.SolverExpr.{SExpr, SExprs, S, PP, []ˢ, ◌∷ˢ◌, func_appl}
use Rattle.solver_expr.specs.Lowering.{bound_vars_to_sexpr, annotate, quantifier, to_sexpr, to_sexprs, patterns_to_sexprs}
use Rattle.solver_expr.specs.Values.{term_of, terms_of, without_variables}

module _ (b : Book) (tag : ℕ) (op : Text) where
  pub appl_none : (start count : ℕ) → count ≡ 0 → S op ≡ func_appl op (terms_of b tag start count)
  unfolding terms_of args_of to_rexprs entries to_sexprs func_appl
  appl_none start zero h = refl
  appl_none start (suc count) h = absurd (omega arith)

  pub appl_some : (start count : ℕ) → (count ≡ 0 → ⊥) → PP (S op ∷ˢ terms_of b tag start count) ≡ func_appl op (terms_of b tag start count)
  unfolding terms_of args_of to_rexprs entries to_sexprs func_appl
  appl_some start zero h = absurd (h refl)
  appl_some start (suc count) h = refl

module _ (b : Book) (univ : Bool) (annotations : SExprs) (body : SExpr) where
  pub vars_none : (start count : ℕ) → count ≡ 0 → body ≡ quantifier univ (map (constant_of b) (entries b start count)) annotations body
  unfolding entries quantifier
  vars_none start zero h = refl
  vars_none start (suc count) h = absurd (omega arith)

  pub vars_some : (start count : ℕ) → 0 < count
      → PP (S (if univ then ascii "forall" else ascii "exists") ∷ˢ PP (bound_vars_to_sexpr (map (constant_of b) (entries b start count))) ∷ˢ annotate body annotations ∷ˢ []ˢ)
      ≡ quantifier univ (map (constant_of b) (entries b start count)) annotations body
  unfolding entries quantifier func_appl
  vars_some start zero h = absurd (omega arith)
  vars_some start (suc count) h = refl

module _ (b : Book) (t : ℕ) where
  pub kind_at : {x : ℕ} (k : ℕ) → x ≡ field b terms t 0 → x ≡ k → kind_of (field b terms t 0) ≡ kind_of k
  kind_at k e h = ap kind_of (sym e ∙ h)

  pub is_bare : without_variables b t ≡ true → (kind_of (field b terms t 0) ≡ quantifier_expr) × (field b terms t 3 ≡ 0)
  unfolding without_variables kind_of
  is_bare h =
      let r = and_both (eqb (field b terms t 0) 8) (eqb (field b terms t 3) 0) h in
      (ap kind_of (eqb-true (field b terms t 0) 8 r.0), eqb-true (field b terms t 3) 0 r.1)

  pub not_bare : field b terms t 0 ≡ 8 → without_variables b t ≡ false → 0 < field b terms t 3
  unfolding without_variables
  not_bare e h = some (field b terms t 3) (rw (eq-eqb (field b terms t 0) 8 e) at h)
    where
      some : (n : ℕ) → (true && eqb n 0) ≡ false → 0 < n
      some zero h = let z : ◌≡◌ {A = ℕ} 0 1 = cc in absurd (omega arith)
      some (suc n) h = omega arith

  module _ (P : Promise b) (l : t < size b terms) where
    pub by_kind : {k : Kind} → kind_of (field b terms t 0) ≡ k → (tag : ℕ) → term_of b tag t ≡ to_sexpr (term_by b k (term b) t) tag
    unfolding term_of term_over
    by_kind {k} e tag = ap (λ (x : RExpr). to_sexpr x tag) (term-over b P t l ∙ ap (λ (j : Kind). term_by b j (term b) t) e)

    pub good_kind : {k : Kind} → kind_of (field b terms t 0) ≡ k → GoodKind k b t
    good_kind e = subst (λ (j : Kind). GoodKind j b t) e (P.term t l).fields

    pub body_smaller : kind_of (field b terms t 0) ≡ quantifier_expr → field b terms t 6 < t
    unfolding GoodKind
    body_smaller e = (good_kind e).body

    -- a quantifier without variables is its body
    pub body_is : kind_of (field b terms t 0) ≡ quantifier_expr → field b terms t 3 ≡ 0 → (tag : ℕ) → term_of b tag (field b terms t 6) ≡ term_of b tag t
    unfolding to_sexpr term_by
    body_is e z tag = unfold term_of in (vars_none b _ _ _ _ _ z ∙ sym (unfold term_of in by_kind e tag))
    -- the last kind

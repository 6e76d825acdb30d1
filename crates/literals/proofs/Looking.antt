-- A look at one term: whether it is a literal, and whether it declared the name.
use Prim.Native.Nat.{ℕ, ◌+◌}
use mathlib.Core.Path.{◌≡◌, sym, ◌∙◌}
use mathlib.Core.Bool.{Bool, true, false, not, false≢true}
use mathlib.Core.List.{List, [], ◌∷◌}
use mathlib.Core.Option.{Option, none, some}
use lib.Dec.{eqb}
use lib.ListN.{get_or}
use borrow.Author.Tests.{eq-eqb, ne_eqb}
use Rattle.basics.specs.Text.{Text, same}
use Rattle.book.specs.Book.{Book, terms, field}
use Rattle.book.specs.RExpr.{Literal}
use Rattle.book.specs.Decode.{literal_of, literal_at}
use Rattle.book.proofs.Terms.{literal_kind, other_kind}
use Rattle.solver_expr.specs.Lowering.{literal_name}
use Rattle.rsolver.specs.LevelState.{literal_places, has_name}
use Rattle.basics.proofs.Bool.{and-false}
use Rattle.literals.specs.Literals.{declares_name}
use Rattle.literals.specs.Search.{literal_count}

pub not_both : (l : ℕ) {x : Bool} → l ≡ 0 → x ≡ not (eqb l 0) → x ≡ true → ⊥
not_both l z e t = false≢true (sym (e ∙ rw (eq-eqb l 0 z)) ∙ t)

module _ (b : Book) where
  -- ---- a literal counts, and no other term
  one : (o : Option Literal) {l : Literal} → o ≡ some l → 1 ≡ literal_count (o ∷ [])
  unfolding literal_count
  one o e = rw e

  no_one : (o : Option Literal) → o ≡ none → 0 ≡ literal_count (o ∷ [])
  unfolding literal_count
  no_one o e = rw e

  pub counts : (k : ℕ) {n : ℕ} → n ≡ field b terms k 0 → n ≡ 2 → 1 ≡ literal_count (literal_at b k ∷ [])
  counts k e z = one (literal_at b k) (literal_kind b k (sym e ∙ z))

  pub counts_not : (k : ℕ) {n : ℕ} → n ≡ field b terms k 0 → (n ≡ 2 → ⊥) → 0 ≡ literal_count (literal_at b k ∷ [])
  unfolding literal_at
  counts_not k e z = no_one (literal_at b k) (other_kind b (field b terms k 0) k (λ q. z (e ∙ q)))

  -- ---- a term that declared a name
  pub undeclared : (name : Text) (ls : List ℕ) (k : ℕ) → get_or ls (literal_places + k) 0 ≡ 0 → false ≡ declares_name b name ls k
  unfolding declares_name
  undeclared name ls k z = rw (eq-eqb (get_or ls (literal_places + k) 0) 0 z)

  pub no_literal : (name : Text) (ls : List ℕ) (k : ℕ) {n : ℕ} → n ≡ field b terms k 0 → (n ≡ 2 → ⊥) → false ≡ declares_name b name ls k
  unfolding declares_name has_name literal_at
  no_literal name ls k e z = rw (other_kind b (field b terms k 0) k (λ q. z (e ∙ q))) (sym (and-false (not (eqb (get_or ls (literal_places + k) 0) 0))))

  pub by_name : (name : Text) (ls : List ℕ) (k : ℕ) {n : ℕ} {r : Bool} → (get_or ls (literal_places + k) 0 ≡ 0 → ⊥) → n ≡ field b terms k 0 → n ≡ 2 → r ≡ same name (literal_name (literal_of b k)) → r ≡ declares_name b name ls k
  unfolding declares_name has_name
  by_name name ls k h e z q = rw (ne_eqb (get_or ls (literal_places + k) 0) 0 h, literal_kind b k (sym e ∙ z)) q

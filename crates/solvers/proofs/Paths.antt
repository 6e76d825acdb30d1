-- What SetContext does to the stack of memos.
use Prim.Native.Nat.{ℕ, suc, ◌≤◌}
use mathlib.Core.Bool.{Bool, true, false, cond}
use mathlib.Core.Path.{◌≡◌, refl, sym, ap, ◌∙◌}
use mathlib.Core.List.{List, [], ◌∷◌, ◌++◌, tail}
use native.Mathlib.Omega.{arith}
use lib.Dec.{eqb, ltb}
use lib.ListN.{length}
use borrow.Author.Tests.{ltb-true, ltb-false, eqb-true, lt-ltb}
use Rattle.book.specs.Program.{Program, path}
use Rattle.book.proofs.Paths.{Chain}
use Rattle.rsolver.specs.LevelState.{is_top}

-- SetContext and AdjustContext as a list of operations, from the stack of memos p to the context whose path is q
pub data Op : Type 0 where
  up : Op
  down : ℕ → Op

unfoldable pub adjust : List ℕ → List ℕ → List Op
adjust [] p = []
adjust (n ∷ q) p =
    cond (ltb (length p) (suc (length q))) (adjust q p ++ down n ∷ [])
    (cond (is_top n p) [] (up ∷ (adjust q (tail p) ++ down n ∷ [])))

unfoldable pub ops : List ℕ → List ℕ → List Op
ops q [] = adjust q []
ops q (m ∷ p) = cond (ltb (length q) (suc (length p))) (up ∷ ops q p) (adjust q (m ∷ p))

-- what the operations do to the stack of memos alone
unfoldable pub applied : List Op → List ℕ → List ℕ
applied [] p = p
applied (up ∷ os) p = applied os (tail p)
applied (down n ∷ os) p = applied os (n ∷ p)

-- each pop finds a memo, and each push is of a node onto its parent's path
abbrev pub Legal : Program → List Op → List ℕ → Type 0
Legal B [] p = Unit {0}
Legal B (up ∷ os) [] = ⊥
Legal B (up ∷ os) (m ∷ p) = Legal B os p
Legal B (down n ∷ os) p = Chain B (n ∷ p) × Legal B os (n ∷ p)

pub applied_append : (a b : List Op) (p : List ℕ) → applied (a ++ b) p ≡ applied b (applied a p)
unfolding applied
applied_append [] b p = refl
applied_append (up ∷ a) b p = applied_append a b (tail p)
applied_append (down n ∷ a) b p = applied_append a b (n ∷ p)

legal_append : (B : Program) (a b : List Op) (p : List ℕ) → Legal B a p → Legal B b (applied a p) → Legal B (a ++ b) p
unfolding applied
legal_append B [] b p h k = k
legal_append B (up ∷ a) b [] h k = h
legal_append B (up ∷ a) b (m ∷ p) h k = legal_append B a b p h k
legal_append B (down n ∷ a) b p h k = (h.0, legal_append B a b (n ∷ p) h.1 k)

-- where the operations lead from p, and that each push is legal
pub record Leads (B : Program) (os : List Op) (p q : List ℕ) : Type 0 where
  pub ends : applied os p ≡ q
  pub legal : Legal B os p

-- down to q, and then one more push
leads_push : (B : Program) (os : List Op) (n : ℕ) (p q : List ℕ) → Chain B (n ∷ q) → Leads B os p q → Leads B (os ++ down n ∷ []) p (n ∷ q)
unfolding applied
leads_push B os n p q c d =
    record {
      ends = applied_append os (down n ∷ []) p ∙ ap {B = List ℕ} (λ r. n ∷ r) d.ends;
      legal = legal_append B os (down n ∷ []) p d.legal (rw d.ends (c, tt));
    }

chain_tail : (B : Program) (p : List ℕ) → Chain B p → Chain B (tail p)
chain_tail B [] c = tt
chain_tail B (m ∷ p) c = c.3

leads_adjust : (B : Program) (q p : List ℕ) → Chain B q → Chain B p → length p ≤ length q → Leads B (adjust q p) p q
unfolding adjust is_top applied
leads_adjust B [] [] c d h = record { ends = refl; legal = tt }
leads_adjust B [] (m ∷ p) c d h = absurd (omega arith)
leads_adjust B (n ∷ q) [] c d h = rw (lt-ltb 0 (suc (length q)) (omega arith)) (leads_push B (adjust q []) n [] q c (leads_adjust B q [] c.3 tt (omega arith)))
leads_adjust B (n ∷ q) (m ∷ p) c d h = go (ltb (suc (length p)) (suc (length q))) refl (eqb m n) refl
    (λ k. leads_adjust B q (m ∷ p) c.3 d k) (λ k. leads_adjust B q p c.3 d.3 k)
  where
    go : (x : Bool) → ltb (suc (length p)) (suc (length q)) ≡ x → (y : Bool) → eqb m n ≡ y
        → (suc (length p) ≤ length q → Leads B (adjust q (m ∷ p)) (m ∷ p) q)
        → (length p ≤ length q → Leads B (adjust q p) p q)
        → Leads B (cond x (adjust q (m ∷ p) ++ down n ∷ []) (cond y [] (up ∷ (adjust q p ++ down n ∷ [])))) (m ∷ p) (n ∷ q)
    go true e y e' f g = leads_push B (adjust q (m ∷ p)) n (m ∷ p) q c (f (omega (arith, ltb-true (suc (length p)) (suc (length q)) e)))
    go false e true e' f g = record { ends = d.2 ∙ ap (path B) (eqb-true m n e') ∙ sym c.2; legal = tt }
    go false e false e' f g =
        let r = leads_push B (adjust q p) n p q c (g (omega arith)) in
        record { ends = r.ends; legal = r.legal }

pub leads_set : (B : Program) (q p : List ℕ) → Chain B q → Chain B p → Leads B (ops q p) p q
unfolding ops applied
leads_set B q [] c d = leads_adjust B q [] c tt (omega arith)
leads_set B q (m ∷ p) c d = go (ltb (length q) (suc (length p))) refl (leads_set B q p c d.3)
  where
    go : (x : Bool) → ltb (length q) (suc (length p)) ≡ x → Leads B (ops q p) p q
        → Leads B (cond x (up ∷ ops q p) (adjust q (m ∷ p))) (m ∷ p) q
    go true e r = record { ends = r.ends; legal = r.legal }
    go false e r = leads_adjust B q (m ∷ p) c d (ltb-false (length q) (suc (length p)) e)

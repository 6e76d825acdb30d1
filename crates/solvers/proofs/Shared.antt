-- `shared` is what demand 3 says: the depth of the deepest node that both paths have.
use Rattle.std.specs.Prelude.{if◌then◌else◌}
use Prim.Native.Nat.{ℕ, zero, suc, ◌≤◌}
use mathlib.Core.Bool.{Bool, true, false, ◌||◌, true≢false}
use mathlib.Core.Logic.{◌⊎◌, inl, inr}
use mathlib.Core.Path.{◌≡◌, refl, sym, ap, ◌∙◌}
use mathlib.Core.List.{List, [], ◌∷◌}
use native.Mathlib.Omega.{arith}
use lib.Dec.{eqb}
use lib.ListN.{length}
use borrow.Author.Tests.{eqb-true, eq-eqb}
use Rattle.basics.specs.Lists.{member}
use Rattle.book.specs.Program.{Program, path, depth, shared}
use Rattle.book.proofs.Paths.{Chain, chain, on_suffix}
use Rattle.solvers.specs.NoFallback.{Deepest}
use Rattle.solvers.proofs.Good.{Good}

pub deepest : (B : Program) (x : ℕ) (p q : List ℕ) → Chain B p → member x p ≡ true → member x q ≡ true → length (path B x) ≤ shared p q
unfolding member shared
deepest B x [] q c h k = absurd (true≢false (sym h))
deepest B x (m ∷ p) q c h k = go (member m q) refl (eqb x m) refl (λ u. deepest B x p q c.3 u k)
  where
    go : (b : Bool) → member m q ≡ b → (d : Bool) → eqb x m ≡ d → (member x p ≡ true → length (path B x) ≤ shared p q)
        → length (path B x) ≤ (if b then suc (length p) else shared p q)
    go true e d f g = (on_suffix B x (m ∷ p) c h).0
    go false e true f g = absurd (true≢false (sym k ∙ ap {B = Bool} (λ y. member y q) (eqb-true x m f) ∙ e))
    go false e false f g = g (rw f at h)

pub is_shared : (B : Program) (p q : List ℕ) → Chain B p
    → (shared p q ≡ 0) ⊎ ((x : ℕ) × (member x p ≡ true) × (member x q ≡ true) × (length (path B x) ≡ shared p q))
unfolding member shared
is_shared B [] q c = inl refl
is_shared B (m ∷ p) q c = go (member m q) refl (is_shared B p q c.3)
  where
    go : (b : Bool) → member m q ≡ b
        → (shared p q ≡ 0) ⊎ ((x : ℕ) × (member x p ≡ true) × (member x q ≡ true) × (length (path B x) ≡ shared p q))
        → ((if b then suc (length p) else shared p q) ≡ 0) ⊎ ((x : ℕ) × (member x (m ∷ p) ≡ true) × (member x q ≡ true) × (length (path B x) ≡ (if b then suc (length p) else shared p q)))
    go true e r = inr (m, rw (eq-eqb m m refl), e, ap length (sym c.2))
    go false e (inl r) = inl r
    go false e (inr r) = inr (r.0, or_right (eqb r.0 m) r.1, r.2, r.3)
      where
        or_right : (a : Bool) {b : Bool} → b ≡ true → (a || b) ≡ true
        or_right true e = refl
        or_right false e = e

pub deepest_shared : (p : Program) → Good p → (old new : ℕ) → Deepest p old new (shared (path p old) (path p new))
unfolding depth
deepest_shared p G a n =
    let c = chain p G.parents a in
    record { most = λ x. deepest p x (path p a) (path p n) c; met = is_shared p (path p a) (path p n) c }

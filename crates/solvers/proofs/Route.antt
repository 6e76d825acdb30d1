-- SetContext makes d - s pops, with s the depth of the deepest node that both paths share, and then the pushes downward.
use Rattle.std.specs.Prelude.{if◌then◌else◌}
use Prim.Native.Nat.{ℕ, zero, suc, ◌+◌, ◌-◌, ◌≤◌, ◌<◌}
use mathlib.Core.Bool.{Bool, true, false, cond, ◌||◌}
use mathlib.Core.Path.{◌≡◌, refl, sym, ap, ◌∙◌}
use mathlib.Core.List.{List, [], ◌∷◌, ◌++◌, map, tail, reverse, reverse-cons, append_assoc}
use native.Mathlib.Omega.{arith}
use lib.Dec.{eqb, leb, ltb}
use lib.ListN.{length, replicate, take}
use borrow.Author.Tests.{ltb-true, ltb-false, eqb-true, eqb-false, ne_eqb, eq-eqb, lt-ltb}
use Rattle.basics.specs.Lists.{member}
use Rattle.book.specs.Program.{Program, path, shared}
use Rattle.book.proofs.Paths.{Chain, not_on, shared_most, shared_self, shared_skip, shared_new}
use Rattle.rsolver.specs.LevelState.{is_top}
use Rattle.solvers.proofs.Paths.{Op, up, down, adjust, ops}

unfoldable pub route : List ℕ → List ℕ → ℕ → List Op
route p q s = replicate (length p - s) up ++ map down (reverse (take (length q - s) q))

map-append : {A B : Type 0} (f : A → B) (a b : List A) → map f (a ++ b) ≡ map f a ++ map f b
map-append f [] b = refl
map-append {B = B} f (x ∷ a) b = ap {B = List B} (λ r. f x ∷ r) (map-append f a b)

first_skip : (m n : ℕ) (p q : List ℕ) → eqb m n ≡ false → member m q ≡ false → shared (m ∷ p) (n ∷ q) ≡ shared p (n ∷ q)
unfolding member
first_skip m n p q a b = shared_skip m p (n ∷ q) (rw (a, b))

-- one node more, at the end of both
route_push : (p q : List ℕ) (n s : ℕ) → s ≤ length q → route p (n ∷ q) s ≡ route p q s ++ down n ∷ []
unfolding route
route_push p q n s h =
    let e : suc (length q) - s ≡ suc (length q - s) = omega arith in
    rw (e, reverse-cons, map-append, append_assoc)

route_pop : (m : ℕ) (p q : List ℕ) (s : ℕ) → s ≤ length p → route (m ∷ p) q s ≡ up ∷ route p q s
unfolding route
route_pop m p q s h =
    let e : suc (length p) - s ≡ suc (length p - s) = omega arith in
    rw e

route_none : (p q : List ℕ) → length p ≡ length q → route p q (length p) ≡ []
unfolding route
route_none p q e = let h : length p - length p ≡ 0 = omega arith in let k : length q - length p ≡ 0 = omega arith in rw (h, k)

adjust_route : (B : Program) (q p : List ℕ) → Chain B q → Chain B p → length p ≤ length q → adjust q p ≡ route p q (shared p q)
unfolding adjust is_top shared
adjust_route B [] [] c d h = sym (route_none [] [] refl)
adjust_route B [] (m ∷ p) c d h = absurd (omega arith)
adjust_route B (n ∷ q) [] c d h =
    rw (lt-ltb 0 (suc (length q)) (omega arith)) (ap {B = List Op} (λ r. r ++ down n ∷ []) (adjust_route B q [] c.3 tt (omega arith)) ∙ sym (route_push [] q n 0 (omega arith)))
adjust_route B (n ∷ q) (m ∷ p) c d h = go (ltb (suc (length p)) (suc (length q))) refl (eqb m n) refl
    (λ k. adjust_route B q (m ∷ p) c.3 d k) (λ k. adjust_route B q p c.3 d.3 k)
  where
    depth_n : length (path B n) ≡ suc (length q)
    depth_n = ap length (sym c.2)

    depth_m : length (path B m) ≡ suc (length p)
    depth_m = ap length (sym d.2)

    go : (x : Bool) → ltb (suc (length p)) (suc (length q)) ≡ x → (y : Bool) → eqb m n ≡ y
        → (suc (length p) ≤ length q → adjust q (m ∷ p) ≡ route (m ∷ p) q (shared (m ∷ p) q))
        → (length p ≤ length q → adjust q p ≡ route p q (shared p q))
        → cond x (adjust q (m ∷ p) ++ down n ∷ []) (cond y [] (up ∷ (adjust q p ++ down n ∷ []))) ≡ route (m ∷ p) (n ∷ q) (shared (m ∷ p) (n ∷ q))
    go true e y e' f g =
        let k = ltb-true (suc (length p)) (suc (length q)) e in
        let s = shared_new n (m ∷ p) q (not_on B n (m ∷ p) d (omega (arith, depth_n))) in
        ap {B = List Op} (λ r. r ++ down n ∷ []) (f (omega arith))
        ∙ sym (route_push (m ∷ p) q n (shared (m ∷ p) q) (omega (arith, shared_most (m ∷ p) q)))
        ∙ ap (route (m ∷ p) (n ∷ q)) (sym s)
    go false e true e' f g =
        let k = ltb-false (suc (length p)) (suc (length q)) e in
        let s : shared (m ∷ p) (n ∷ q) ≡ suc (length p) = ap {B = ℕ} (λ x. shared (m ∷ p) (x ∷ q)) (sym (eqb-true m n e')) ∙ shared_self m p q in
        sym (ap (route (m ∷ p) (n ∷ q)) s ∙ route_none (m ∷ p) (n ∷ q) (omega arith))
    go false e false e' f g =
        let k = ltb-false (suc (length p)) (suc (length q)) e in
        let s : shared (m ∷ p) (n ∷ q) ≡ shared p q = first_skip m n p q e' (not_on B m q c.3 (omega (arith, depth_m))) ∙ shared_new n p q (not_on B n p d.3 (omega (arith, depth_n))) in
        ap {B = List Op} (λ r. up ∷ (r ++ down n ∷ [])) (g (omega arith))
        ∙ ap {B = List Op} (λ r. up ∷ r) (sym (route_push p q n (shared p q) (omega (arith, shared_most p q))))
        ∙ sym (route_pop m p (n ∷ q) (shared p q) (shared_most p q))
        ∙ ap (route (m ∷ p) (n ∷ q)) (sym s)

pub ops_route : (B : Program) (q p : List ℕ) → Chain B q → Chain B p → ops q p ≡ route p q (shared p q)
unfolding ops shared
ops_route B q [] c d = adjust_route B q [] c tt (omega arith)
ops_route B q (m ∷ p) c d = go (ltb (length q) (suc (length p))) refl (ops_route B q p c d.3)
  where
    go : (x : Bool) → ltb (length q) (suc (length p)) ≡ x → ops q p ≡ route p q (shared p q)
        → cond x (up ∷ ops q p) (adjust q (m ∷ p)) ≡ route (m ∷ p) q (shared (m ∷ p) q)
    go true e r =
        let k : length (path B m) ≡ suc (length p) = ap length (sym d.2) in
        let s = shared_skip m p q (not_on B m q c (omega (arith, ltb-true (length q) (suc (length p)) e))) in
        ap {B = List Op} (λ r. up ∷ r) r ∙ sym (route_pop m p q (shared p q) (shared_most p q)) ∙ ap (route (m ∷ p) q) (sym s)
    go false e r = adjust_route B q (m ∷ p) c d (ltb-false (length q) (suc (length p)) e)

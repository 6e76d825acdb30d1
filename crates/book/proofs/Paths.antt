-- Paths of a tree whose parents are smaller than their children, and what two of them share.
use Rattle.std.specs.Prelude.{if◌then◌else◌}
use Prim.Native.Nat.{ℕ, zero, suc, ◌-◌, ◌≤◌, ◌<◌}
use native.Mathlib.Omega.{arith}
use mathlib.Core.Path.{◌≡◌, refl, sym, ap, ◌∙◌}
use mathlib.Core.Bool.{Bool, true, false, true≢false}
use mathlib.Core.List.{List, [], ◌∷◌}
use lib.Dec.{eqb}
use lib.ListN.{length, drop, drop_of_length-le}
use borrow.Author.Tests.{eqb-true, eqb-false, eq-eqb, ne_eqb}
use Rattle.basics.specs.Lists.{member}
use Rattle.basics.proofs.Bool.{or_left, or_right}
use Rattle.basics.proofs.All.{All, end, more}
use Rattle.book.specs.Program.{Program, node_at, path_up, path, shared}

-- a list of nodes in which each is followed by its path
abbrev pub Chain : Program → List ℕ → Type 0
Chain p [] = Unit {0}
Chain p (n ∷ ns) = (0 < n) × (ns ≡ path p (node_at p n).parent) × (n ∷ ns ≡ path p n) × Chain p ns

module _ (p : Program) (parents : (n : ℕ) → (node_at p (suc n)).parent ≤ n) where
  -- any fuel from the node's number up is the same
  up_same : (f g n : ℕ) → n ≤ f → n ≤ g → path_up p f n ≡ path_up p g n
  unfolding path_up
  up_same zero zero n h k = refl
  up_same zero (suc g) zero h k = refl
  up_same zero (suc g) (suc n) h k = absurd (omega arith)
  up_same (suc f) zero zero h k = refl
  up_same (suc f) zero (suc n) h k = absurd (omega arith)
  up_same (suc f) (suc g) zero h k = refl
  up_same (suc f) (suc g) (suc n) h k =
      let b = parents n in
      ap {B = List ℕ} (λ r. suc n ∷ r) (up_same f g (node_at p (suc n)).parent (omega arith) (omega arith))

  -- a node's path is the node and its parent's path
  pub path_step : (n : ℕ) → 0 < n → path p n ≡ n ∷ path p (node_at p n).parent
  unfolding path path_up
  path_step zero h = absurd (omega arith)
  path_step (suc n) h = ap {B = List ℕ} (λ r. suc n ∷ r) (up_same n (node_at p (suc n)).parent (node_at p (suc n)).parent (parents n) (omega arith))

  -- the nodes of a path are below the root, and none is larger than its first
  up_below : (m fuel n : ℕ) → n ≤ m → All (λ x. (0 < x) × (x ≤ m)) (path_up p fuel n)
  unfolding path_up
  up_below m zero n h = end
  up_below m (suc fuel) zero h = end
  up_below m (suc fuel) (suc n) h = more {a = suc n} (omega arith, h) (up_below m fuel (node_at p (suc n)).parent (omega (arith, parents n)))

  pub path_below : (n : ℕ) → All (λ x. (0 < x) × (x ≤ n)) (path p n)
  unfolding path
  path_below n = up_below n n n (omega arith)

  chain_up : (f n : ℕ) → n ≤ f → Chain p (path_up p f n)
  unfolding path_up path
  chain_up zero n h = tt
  chain_up (suc f) zero h = tt
  chain_up (suc f) (suc n) h =
      let b = parents n in (
        omega arith,
        up_same f (node_at p (suc n)).parent (node_at p (suc n)).parent (omega arith) (omega arith),
        ap {B = List ℕ} (λ r. suc n ∷ r) (up_same f n (node_at p (suc n)).parent (omega arith) b),
        chain_up f (node_at p (suc n)).parent (omega arith),
      )

  pub chain : (n : ℕ) → Chain p (path p n)
  unfolding path
  chain n = chain_up n n (omega arith)

-- the end of a path is a path
pub chain_drop : (p : Program) (k : ℕ) (q : List ℕ) → Chain p q → Chain p (drop k q)
chain_drop p zero q c = c
chain_drop p (suc k) [] c = c
chain_drop p (suc k) (n ∷ q) c = chain_drop p k q c.3

-- ---- a node on a path
drop_none : {A : Type 0} (k : ℕ) (l : List A) → k ≡ 0 → drop k l ≡ l
drop_none k l e = rw e

drop_one : {A : Type 0} (n s : ℕ) (a : A) (l : List A) → s ≤ n → drop (suc n - s) (a ∷ l) ≡ drop (n - s) l
drop_one n s a l h = let e : suc n - s ≡ suc (n - s) = omega arith in rw e

-- it has its own path at the end of it
pub on_suffix : (p : Program) (m : ℕ) (q : List ℕ) → Chain p q → member m q ≡ true → (length (path p m) ≤ length q) × (drop (length q - length (path p m)) q ≡ path p m)
unfolding member
on_suffix p m [] c h = absurd (true≢false (sym h))
on_suffix p m (n ∷ q) c h = go (eqb m n) refl (λ u. on_suffix p m q c.3 u)
  where
    go : (x : Bool) → eqb m n ≡ x → (member m q ≡ true → (length (path p m) ≤ length q) × (drop (length q - length (path p m)) q ≡ path p m))
        → (length (path p m) ≤ suc (length q)) × (drop (suc (length q) - length (path p m)) (n ∷ q) ≡ path p m)
    go true e f =
        let w : n ∷ q ≡ path p m = c.2 ∙ ap (path p) (sym (eqb-true m n e)) in
        let k : suc (length q) ≡ length (path p m) = ap length w in
        (omega arith, drop_none (suc (length q) - length (path p m)) (n ∷ q) (omega arith) ∙ w)
    go false e f =
        let r = f (rw e at h) in
        (omega (arith, r.0), drop_one (length q) (length (path p m)) n q r.0 ∙ r.1)

-- so one that is deeper than the whole path is not on it
pub not_on : (p : Program) (m : ℕ) (q : List ℕ) → Chain p q → length q < length (path p m) → member m q ≡ false
not_on p m q c h = at (member m q) refl
  where
    at : (x : Bool) → member m q ≡ x → x ≡ false
    at true e = absurd (omega (arith, (on_suffix p m q c e).0))
    at false e = refl

-- ---- what two paths share
pub shared_most : (ns q : List ℕ) → shared ns q ≤ length ns
unfolding shared
shared_most [] q = omega arith
shared_most (m ∷ ns) q = at (member m q) (shared_most ns q)
  where
    at : (x : Bool) → shared ns q ≤ length ns → (if x then suc (length ns) else shared ns q) ≤ suc (length ns)
    at true h = omega arith
    at false h = omega arith

pub shared_self : (m : ℕ) (ns q : List ℕ) → shared (m ∷ ns) (m ∷ q) ≡ suc (length ns)
unfolding shared member
shared_self m ns q = rw (eq-eqb m m refl)

-- a node that the other path hasn't
pub shared_skip : (m : ℕ) (ns q : List ℕ) → member m q ≡ false → shared (m ∷ ns) q ≡ shared ns q
unfolding shared
shared_skip m ns q e = rw e

pub shared_new : (k : ℕ) (ns q : List ℕ) → member k ns ≡ false → shared ns (k ∷ q) ≡ shared ns q
unfolding shared member
shared_new k [] q e = refl
shared_new k (x ∷ ns) q e =
    let d = eqb-false k x (or_left (eqb k x) (member k ns) e) in
    rw (ne_eqb x k (λ z. d (sym z)), shared_new k ns q (or_right (eqb k x) (member k ns) e))

-- it is the end of both
pub shared_suffix : (p : Program) (ns q : List ℕ) → Chain p ns → Chain p q → (shared ns q ≤ length q) × (drop (length ns - shared ns q) ns ≡ drop (length q - shared ns q) q)
unfolding shared
shared_suffix p [] q c d = (omega arith, sym (drop_of_length-le q {i = length q - 0} (omega arith)))
shared_suffix p (m ∷ ns) q c d = go (member m q) refl (shared_suffix p ns q c.3 d) (shared_most ns q)
  where
    go : (x : Bool) → member m q ≡ x → (shared ns q ≤ length q) × (drop (length ns - shared ns q) ns ≡ drop (length q - shared ns q) q) → shared ns q ≤ length ns
        → ((if x then suc (length ns) else shared ns q) ≤ length q)
        × (drop (suc (length ns) - (if x then suc (length ns) else shared ns q)) (m ∷ ns) ≡ drop (length q - (if x then suc (length ns) else shared ns q)) q)
    go true e r h =
        let w = c.2 in
        let k : length (path p m) ≡ suc (length ns) = sym (ap length w) in
        let s = on_suffix p m q d e in
        (omega (arith, s.0), drop_none (suc (length ns) - suc (length ns)) (m ∷ ns) (omega arith) ∙ w ∙ sym s.1 ∙ ap (λ (i : ℕ). drop (length q - i) q) k)
    go false e r h = (r.0, drop_one (length ns) (shared ns q) m ns h ∙ r.1)

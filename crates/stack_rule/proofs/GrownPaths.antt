-- The nodes of a program, and those of a path in it; on a program that extends it they are what they were.
use Prim.Native.Nat.{ℕ, zero, suc, ◌≤◌, ◌<◌}
use native.Mathlib.Omega.{arith}
use mathlib.Core.Path.{◌≡◌}
use mathlib.Core.List.{List, reverse, reverse_aux}
use lib.ListN.{length, take}
use Rattle.basics.proofs.All.{All, end, more}
use Rattle.book.specs.Program.{Program, node_at, path_up, path}
use Rattle.book.specs.Extends.{Extends}
use Rattle.book.proofs.ExtendsNodes.{node_at_kept, path_kept}
use Rattle.solvers.proofs.Good.{Good}

-- a node of the program, the root left out
pub data Node (p : Program) : ℕ → Type 0 where
  node : {n : ℕ} → n < length p.contexts → Node p (suc n)

all_take : {P : ℕ → Type 0} (k : ℕ) {ns : List ℕ} → All P ns → All P (take k ns)
all_take zero h = end
all_take (suc k) end = end
all_take (suc k) (more h hs) = more h (all_take k hs)

all_onto : {P : ℕ → Type 0} {ns ms : List ℕ} → All P ns → All P ms → All P (reverse_aux ns ms)
all_onto end r = r
all_onto (more h hs) r = all_onto hs (more h r)

-- downward, as a move goes
pub all_down : {P : ℕ → Type 0} (k : ℕ) {ns : List ℕ} → All P ns → All P (reverse (take k ns))
all_down k h = all_onto (all_take k h) end

module _ (p : Program) (G : Good p) where
  up_nodes : (f n : ℕ) → n ≤ length p.contexts → All (Node p) (path_up p f n)
  unfolding path_up
  up_nodes zero n h = end
  up_nodes (suc f) zero h = end
  up_nodes (suc f) (suc n) h = more (node {n = n} (omega arith)) (up_nodes f (node_at p (suc n)).parent (omega (arith, G.parents n)))

  pub path_nodes : (n : ℕ) → n ≤ length p.contexts → All (Node p) (path p n)
  unfolding path
  path_nodes n h = up_nodes n n h

  pub parent_inside : {n : ℕ} → Node p n → (node_at p n).parent ≤ length p.contexts
  parent_inside (node {n = n} h) = omega (arith, G.parents n)

  module _ (q : Program) (x : Extends p q) where
    pub node_grown : {n : ℕ} → Node p n → node_at q n ≡ node_at p n
    node_grown (node {n = n} h) = node_at_kept p q x n h

    pub path_grown : (n : ℕ) → n ≤ length p.contexts → path q n ≡ path p n
    path_grown n h = path_kept p q x (λ k i. G.parents k) n h

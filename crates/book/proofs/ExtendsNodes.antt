-- A program that goes on behind another: the nodes and paths of the first are the same.
use Prim.Native.Nat.{ℕ, zero, suc, ◌-◌, ◌≤◌, ◌<◌}
use native.Mathlib.Omega.{arith}
use mathlib.Core.Path.{◌≡◌, refl}
use lib.ListN.{length, get_or-append}
use Rattle.book.specs.Program.{Program, axiom_at, node_at, path_up, path}
use Rattle.book.specs.Extends.{Extends}

module _ (p q : Program) (E : Extends p q) where
  pub axiom_at_kept : (k : ℕ) → axiom_at q k ≡ axiom_at p k
  axiom_at_kept k = rw E.same_axioms

  pub node_at_kept : (n : ℕ) → n < length p.contexts → node_at q (suc n) ≡ node_at p (suc n)
  unfolding node_at
  node_at_kept n h = let e : suc n - 1 ≡ n = omega arith in rw (e, E.more_contexts) (get_or-append p.contexts E.new-contexts _ n h)

  -- a parent's number is smaller
  module _ (below : (n : ℕ) → n < length p.contexts → (node_at p (suc n)).parent ≤ n) where
    up_kept : (fuel node : ℕ) → node ≤ length p.contexts → path_up q fuel node ≡ path_up p fuel node
    unfolding path_up
    up_kept zero node h = refl
    up_kept (suc fuel) zero h = refl
    up_kept (suc fuel) (suc n) h = rw (node_at_kept n h, up_kept fuel (node_at p (suc n)).parent (omega (arith, below n h)))

    pub path_kept : (node : ℕ) → node ≤ length p.contexts → path q node ≡ path p node
    unfolding path
    path_kept node h = up_kept node node h

-- The pops of a move, by going up from the larger of the two nodes.
use Rattle.std.specs.Prelude.{if◌then◌else◌}
use Prim.Native.Nat.{ℕ, zero, suc, ◌+◌, ◌≤◌, ◌<◌}
use native.Mathlib.Omega.{arith}
use mathlib.Core.Path.{◌≡◌, refl, sym, ap}
use mathlib.Core.Bool.{Bool, true, false}
use mathlib.Core.List.{List}
use lib.Dec.{ltb}
use borrow.Author.Tests.{ne_eqb, ltb-true, ltb-false}
use Rattle.basics.specs.Lists.{member}
use Rattle.basics.proofs.All.{All, end, more}
use Rattle.book.specs.Book.{Book, contexts, size}
use Rattle.book.specs.Program.{node_at, path_up, path, depth, shared}
use Rattle.book.specs.Decode.{program}
use Rattle.book.proofs.Paths.{path_step, path_below, shared_most, shared_self, shared_skip, shared_new}
use Rattle.book_test.specs.Promise.{Promise}
use Rattle.book_test.proofs.EveryTerm.{parent_below}
use Rattle.contexts.specs.declared.WayUp.{WayUp}
use Rattle.contexts.specs.Path.{pops_of, way_up, one_up}
use Rattle.contexts.proofs.Climb.{parent_smaller}

-- a node that is larger than every node of a path is not on it
not_member : (k m : ℕ) {ns : List ℕ} → All (λ x. (0 < x) × (x ≤ m)) ns → m < k → member k ns ≡ false
unfolding member
not_member k m end h = refl
not_member k m (more {a = x} l ls) h = rw (ne_eqb k x (λ e. omega (arith, l.1))) (not_member k m ls h)

-- on the way up from both nodes of a move
pub record Rising (b : Book) (old new : ℕ) (at : WayUp) : Type 0 where
  pub from : at.old ≤ size b contexts
  pub to : at.new ≤ size b contexts
  pub few : at.pops + at.old ≤ old
  pub left : at.pops + pops_of (program b) at.old at.new ≡ pops_of (program b) old new

module _ (b : Book) (P : Promise b) where
  pops_same : (a : ℕ) → pops_of (program b) a a ≡ 0
  unfolding pops_of depth
  pops_same zero = unfold path path_up shared in refl
  pops_same (suc a) =
      let s = path_step (program b) (parent_below b P) (suc a) (omega arith) in
      let ns = path (program b) (node_at (program b) (suc a)).parent in
      rw s (omega (arith, shared_self (suc a) ns ns))

  pops_old : (a n : ℕ) → n < a → pops_of (program b) (node_at (program b) a).parent n + 1 ≡ pops_of (program b) a n
  unfolding pops_of depth
  pops_old a n h =
      let away : member a (path (program b) n) ≡ false = not_member a n (path_below (program b) (parent_below b P) n) h in
      let ns = path (program b) (node_at (program b) a).parent in
      let q = path (program b) n in
      rw (path_step (program b) (parent_below b P) a (omega arith)) (omega (arith, shared_skip a ns q away, shared_most ns q))

  pops_new : (a n : ℕ) → a < n → pops_of (program b) a (node_at (program b) n).parent ≡ pops_of (program b) a n
  unfolding pops_of depth
  pops_new a n h =
      let away : member n (path (program b) a) ≡ false = not_member n a (path_below (program b) (parent_below b P) a) h in
      let ns = path (program b) a in
      let q = path (program b) (node_at (program b) n).parent in
      rw (path_step (program b) (parent_below b P) n (omega arith)) (omega (arith, shared_new n ns q away))

  -- with each step up the pops so far and those to come stay the move's
  pub rising_more : (old new : ℕ) (at : WayUp) → Rising b old new at → ¬ (at.old ≡ at.new)
      → Rising b old new (one_up (program b) at) × ((one_up (program b) at).old + (one_up (program b) at).new < at.old + at.new)
  unfolding one_up
  rising_more old new at i d = go (ltb at.new at.old) refl
    where
      go : (x : Bool) → ltb at.new at.old ≡ x
          → let r = if x then way_up (node_at (program b) at.old).parent at.new (at.pops + 1) else way_up at.old (node_at (program b) at.new).parent at.pops in
          Rising b old new r × (r.old + r.new < at.old + at.new)
      go true e =
          let h : at.new < at.old = ltb-true _ _ e in
          let l : (node_at (program b) at.old).parent < at.old = parent_smaller b P at.old _ (omega arith) refl in
          (record { from = omega (arith, i.from); to = i.to; few = omega (arith, i.few); left = omega (arith, i.left, pops_old at.old at.new h) }, omega arith)
      go false e =
          let h : at.old < at.new = omega (arith, ltb-false at.new at.old e, d) in
          let l : (node_at (program b) at.new).parent < at.new = parent_smaller b P at.new _ (omega arith) refl in
          (record { from = i.from; to = omega (arith, i.to); few = i.few; left = omega (arith, i.left, pops_new at.old at.new h) }, omega arith)

  -- where they meet none are to come
  pub rising_done : (old new : ℕ) (at : WayUp) → Rising b old new at → at.old ≡ at.new → at.pops ≡ pops_of (program b) old new
  rising_done old new at i e = omega (arith, i.left, ap (pops_of (program b) at.old) (sym e), pops_same at.old)

-- From refusal 6: the test's depth of a node is the depth in the book's program.
use Prim.Native.Nat.{ℕ, zero, suc, ◌≤◌, ◌<◌}
use native.Mathlib.Omega.{arith}
use mathlib.Core.Path.{◌≡◌, refl, ap}
use mathlib.Core.Bool.{true}
use lib.ListN.{length}
use borrow.Author.Tests.{leb-true}
use Rattle.basics.proofs.Counting.{below_each}
use Rattle.book.specs.Book.{Book, contexts, size, field, depth_most}
use Rattle.book.specs.Program.{Context, node_at, path_up, path, depth}
use Rattle.book.specs.Decode.{context_of, program}
use Rattle.book.proofs.Terms.{node-at}
use Rattle.book_depth.specs.Depth.{steps, node_depth, is_shallow, shallow}

module _ (b : Book) where
  pub parent_at : (k : ℕ) → k < size b contexts → (node_at (program b) (suc k)).parent ≡ field b contexts k 0
  unfolding context_of
  parent_at k l = ap (λ (c : Context). c.parent) (node-at b k l)

  module _ (parents : (k : ℕ) → k < size b contexts → field b contexts k 0 ≤ k) where
    steps_length : (fuel node : ℕ) → node ≤ size b contexts → steps b fuel node ≡ length (path_up (program b) fuel node)
    unfolding steps path_up
    steps_length zero node h = refl
    steps_length (suc fuel) zero h = refl
    steps_length (suc fuel) (suc i) h = rw (parent_at i h) (ap suc (steps_length fuel (field b contexts i 0) (omega (arith, parents i h))))

    pub depth_is : (n : ℕ) → n ≤ size b contexts → node_depth b n ≡ depth (program b) n
    unfolding node_depth depth path
    depth_is n h = steps_length n n h

    pub depth-most : shallow b ≡ true → (k : ℕ) → k < size b contexts → depth (program b) (suc k) ≤ depth_most
    unfolding shallow is_shallow
    depth-most h k l = rw depth_is at (leb-true (node_depth b (suc k)) depth_most (below_each (size b contexts) (is_shallow b) h k l))

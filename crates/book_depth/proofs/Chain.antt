-- A book whose contexts are a chain, each the child of the one before: it is as deep as it has contexts.
use Prim.Native.Nat.{ℕ, zero, suc, ◌<◌, ◌≤◌}
use native.Mathlib.Omega.{arith}
use native.Mathlib.Decide.{dec_lt}
use mathlib.Core.Path.{◌≡◌, refl, sym, ◌∙◌}
use mathlib.Core.Bool.{false}
use lib.Dec.{leb}
use borrow.Author.Tests.{le-leb, lt-leb}
use Rattle.basics.proofs.Counting.{below_all}
use Rattle.basics.proofs.Loops.{all_stop}
use Rattle.book.specs.Book.{Book, contexts, size, field, depth_most}
use Rattle.book_depth.specs.Depth.{steps, node_depth, is_shallow, shallow}

module _ (b : Book) (chain : (k : ℕ) → k < size b contexts → field b contexts k 0 ≡ k) where
  pub chain_depth : (n : ℕ) → n ≤ size b contexts → node_depth b n ≡ n
  unfolding node_depth steps
  chain_depth zero h = refl
  chain_depth (suc k) h = rw (chain k h, chain_depth k (omega arith))

  -- so the limit on depths is one on the contexts
  pub chain_shallow : shallow b ≡ leb (size b contexts) depth_most
  unfolding shallow is_shallow
  chain_shallow = at (dec_lt depth_most (size b contexts))
    where
      at : Dec (depth_most < size b contexts) → shallow b ≡ leb (size b contexts) depth_most
      at (yes l) =
          let deep : is_shallow b depth_most ≡ false = rw (chain_depth (suc depth_most) l) (lt-leb (suc depth_most) depth_most (omega arith)) in
          sym (all_stop (is_shallow b) (size b contexts) depth_most (sym deep) refl l) ∙ sym (lt-leb (size b contexts) depth_most l)
      at (no l) =
          below_all (size b contexts) (is_shallow b) (λ i k. rw (chain_depth (suc i) k) (le-leb (suc i) depth_most (omega arith)))
          ∙ sym (le-leb (size b contexts) depth_most (omega arith))

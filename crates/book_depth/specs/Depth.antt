-- Refusal 6: no node is deeper than the limit.
use Rattle.std.specs.Prelude.{ℕ, zero, suc, Bool, leb}
use Rattle.basics.specs.Lists.{all_below}
use Rattle.book.specs.Book.{Book, contexts, size, field, depth_most}

module _ (b : Book) where
  -- the steps from a node, 0 the root, from parent to parent up to the root, as far as the fuel goes
  unfoldable pub steps : (fuel node : ℕ) → ℕ
  steps zero node = 0
  steps (suc fuel) zero = 0
  steps (suc fuel) (suc i) = suc (steps fuel (field b contexts i 0))

  -- a parent is smaller, so the node's own number is fuel enough
  unfoldable pub node_depth : ℕ → ℕ
  node_depth node = steps node node

  -- record i is node i + 1
  unfoldable pub is_shallow : ℕ → Bool
  is_shallow i = leb (node_depth (suc i)) depth_most

  unfoldable pub shallow : Bool
  shallow = all_below (size b contexts) is_shallow

-- Refusal 7: whether the node or the goal is outside the book.
use Prim.Native.Nat.{ℕ, ◌≤◌, ◌<◌}
use mathlib.Core.Path.{◌≡◌}
use mathlib.Core.Bool.{true, false, ◌||◌}
use lib.Dec.{leb, ltb}
use borrow.Author.Tests.{lt-ltb, le-ltb, le-leb, lt-leb}
use Rattle.book.specs.Book.{Book, terms, contexts, size}

module _ (b : Book) (node goal : ℕ) where
  pub no_node : size b contexts < node → (ltb (size b contexts) node || leb (size b terms) goal) ≡ true
  no_node h = rw (lt-ltb (size b contexts) node h)

  pub no_goal : node ≤ size b contexts → size b terms ≤ goal → (ltb (size b contexts) node || leb (size b terms) goal) ≡ true
  no_goal l h = rw (le-ltb (size b contexts) node l, le-leb (size b terms) goal h)

  pub both_inside : node ≤ size b contexts → goal < size b terms → (ltb (size b contexts) node || leb (size b terms) goal) ≡ false
  both_inside l h = rw (le-ltb (size b contexts) node l, lt-leb (size b terms) goal h)

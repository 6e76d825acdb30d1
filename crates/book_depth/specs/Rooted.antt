-- What refusal 4 gives to refusal 6: a node's parent is smaller, so that every path ends at the root.
use Rattle.std.specs.Prelude.{ℕ, ◌<◌, ◌≤◌}
use Rattle.book.specs.Book.{Book, contexts, size, field}

pub record Rooted (b : Book) : Type 0 where
  pub parent : (k : ℕ) → k < size b contexts → field b contexts k 0 ≤ k

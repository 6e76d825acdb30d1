-- What a reader over the promise asks for.
use Rattle.std.specs.Prelude.{ℕ, ◌<◌}
use Rattle.book.specs.Book.{Book, names, size, field}
use Rattle.book.specs.Laid.{section_at, Holds}
use Rattle.book_test.specs.Promise.{Promise}

-- field i of record k is the number of a name
pub record Named (b : Book) (section k i : ℕ) : Type 0 where
  pub promise : Promise b
  pub known : section < 10
  pub holds : Holds b (section_at section) k i
  pub inside : field b (section_at section) k i < size b names

-- What the functions behind the book test ask for.
use Rattle.std.specs.Prelude.{◌≡◌, true, List, ℕ}
use Rattle.book.specs.Book.{Book}
use Rattle.book_test.specs.Promise.{Promise}
use Rattle.nodes_test.specs.NodesTest.{all_inside}

-- nodes of a tested book
pub record Listed (b : Book) (nodes : List ℕ) : Type 0 where
  pub promise : Promise b
  pub inside : all_inside b nodes ≡ true

-- What the printer of a name asks.
use Rattle.book.specs.Book.{Book}
use Rattle.book_test.specs.Promise.{Promise}
use Rattle.solver_expr.specs.Values.{FineName}
use Rattle.solver_expr.specs.declared.SName.{SName}

pub record ReadyName (b : Book) (n : SName) : Type 0 where
  pub promise : Promise b
  pub fine : FineName b n

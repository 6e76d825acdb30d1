use native.Mathlib.Omega.{arith}
use Rattle.book_writer.proofs.Answers.{copied_short, copied_whole}
use Rattle.book_writer.proofs.appending.copy.Goals as goal

pub returns-then-out-book : goal.returns-then-out-book
returns-then-out-book c = copied_short _ _ (omega (arith, c.if-out-book.true))

pub returns : goal.returns
returns c = copied_whole _ _ (omega (arith, c.if-out-book.false)) c.put_all.ensures

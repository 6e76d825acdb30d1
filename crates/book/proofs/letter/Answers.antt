use Rattle.book.specs.Book.{letter}
use Rattle.book.proofs.letter.Goals as goal

pub returns : goal.returns
unfolding letter
returns c = rw c.offset.ensures.is

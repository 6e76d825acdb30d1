use Rattle.basics.specs.Bits.{has_number}
use Rattle.book_forest.specs.Marks.{is_marked, room}
use borrow.Author.Rules.{rules}
use Rattle.book_forest.proofs.is_marked.Goals as goal

pub bounds-scratch-t : goal.bounds-scratch-t
unfolding room
bounds-scratch-t c = search rules

pub returns : goal.returns
unfolding is_marked has_number
returns c = c.has_bit.ensures

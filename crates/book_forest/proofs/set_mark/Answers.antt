use Rattle.basics.specs.Bits.{has_number, with_number}
use Rattle.book_forest.specs.Marks.{is_marked, set_mark, room}
use native.Mathlib.Omega.{arith}
use borrow.Author.Rules.{rules}
use Rattle.book_forest.proofs.set_mark.Goals as goal

pub bounds-scratch-at : goal.bounds-scratch-at
unfolding room
bounds-scratch-at c = search rules

pub with_bit-requires : goal.with_bit-requires
unfolding is_marked has_number
with_bit-requires c = (omega arith, c.requires.1)

pub bounds-scratch-at-2 : goal.bounds-scratch-at-2
unfolding room
bounds-scratch-at-2 c = search rules

pub returns : goal.returns
unfolding set_mark with_number
returns c = rw (← c.with_bit.ensures)

use Rattle.book_forest.proofs.Marking.{mark_none, mark_more, mark_stop, mark_done}
use Rattle.book_forest.specs.Forest.{entry_reference, range_references}
use native.Mathlib.Omega.{arith}
use Rattle.std.proofs.lemmas.Bool.{not_from_false, not_from_true}
use Rattle.book_forest.proofs.mark_range.Goals as goal

pub loop-j-init : goal.loop-j-init
loop-j-init c = mark_none _ _

pub returns-then-not-mark : goal.returns-then-not-mark
unfolding range_references entry_reference
returns-then-not-mark c = mark_stop (entry_reference c.args.book.now c.args.bound c.args.start) _ _ c.loop-j.invariant (rw c.field.ensures.is at c.mark.ensures) (not_from_false _ c.if-not-mark.true) (omega arith)

pub loop-j-preserved : goal.loop-j-preserved
unfolding entry_reference
loop-j-preserved c = mark_more (entry_reference c.args.book.now c.args.bound c.args.start) _ c.loop-j.invariant (rw c.field.ensures.is at c.mark.ensures) (not_from_true _ c.if-not-mark.false)

pub returns : goal.returns
unfolding range_references
returns c = mark_done _ _ _ c.loop-j.invariant (omega arith)

use Rattle.book_forest.specs.Forest.{context_references}
use Rattle.book_forest.proofs.Marking.{mark_none, mark_more, mark_stop, mark_done}
use native.Mathlib.Omega.{arith}
use Rattle.std.proofs.lemmas.Bool.{not_from_false, not_from_true}
use Rattle.book_forest.proofs.mark_contexts.Goals as goal

pub loop-i-init : goal.loop-i-init
loop-i-init c = mark_none _ _

pub returns-then-not-mark : goal.returns-then-not-mark
unfolding context_references
returns-then-not-mark c = mark_stop (context_references c.args.book.now) _ _ c.loop-i.invariant (rw (c.count-bound.ensures.is, c.field.ensures.is) at c.mark.ensures) (not_from_false _ c.if-not-mark.true) (omega arith)

pub loop-i-preserved : goal.loop-i-preserved
unfolding context_references
loop-i-preserved c = mark_more (context_references c.args.book.now) _ c.loop-i.invariant (rw (c.count-bound.ensures.is, c.field.ensures.is) at c.mark.ensures) (not_from_true _ c.if-not-mark.false)

pub returns : goal.returns
returns c = mark_done _ _ _ c.loop-i.invariant (omega arith)

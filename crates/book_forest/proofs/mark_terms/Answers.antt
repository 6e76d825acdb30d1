use Rattle.book_forest.proofs.Marking.{mark_none, mark_more, mark_stop, mark_done}
use native.Mathlib.Omega.{arith}
use Rattle.std.proofs.lemmas.Bool.{not_from_false, not_from_true}
use Rattle.book_forest.proofs.mark_terms.Goals as goal

pub loop-t-init : goal.loop-t-init
loop-t-init c = mark_none _ _

pub mark_term-requires : goal.mark_term-requires
mark_term-requires c = (c.requires.0, c.requires.1, omega arith, omega arith)

pub returns-then-not-mark_term : goal.returns-then-not-mark_term
returns-then-not-mark_term c = mark_stop _ _ _ c.loop-t.invariant c.mark_term.ensures (not_from_false _ c.if-not-mark_term.true) (omega arith)

pub loop-t-preserved : goal.loop-t-preserved
loop-t-preserved c = mark_more _ _ c.loop-t.invariant c.mark_term.ensures (not_from_true _ c.if-not-mark_term.false)

pub returns : goal.returns
returns c = mark_done _ _ _ c.loop-t.invariant (omega arith)

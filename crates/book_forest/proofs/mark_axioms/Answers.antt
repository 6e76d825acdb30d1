use Rattle.book_forest.proofs.Marking.{mark_none, mark_more, mark_stop, mark_done}
use native.Mathlib.Omega.{arith}
use Rattle.std.proofs.lemmas.Bool.{not_from_false, not_from_true}
use Rattle.book_forest.proofs.mark_axioms.Goals as goal

pub loop-i-init : goal.loop-i-init
loop-i-init c = mark_none _ _

pub returns-then-not-mark_axiom : goal.returns-then-not-mark_axiom
returns-then-not-mark_axiom c = mark_stop _ _ _ c.loop-i.invariant c.mark_axiom.ensures (not_from_false _ c.if-not-mark_axiom.true) (omega arith)

pub loop-i-preserved : goal.loop-i-preserved
loop-i-preserved c = mark_more _ _ c.loop-i.invariant c.mark_axiom.ensures (not_from_true _ c.if-not-mark_axiom.false)

pub returns : goal.returns
returns c = mark_done _ _ _ c.loop-i.invariant (omega arith)

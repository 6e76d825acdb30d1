use native.Mathlib.Omega.{arith}
use Rattle.levels.proofs.Marking.{counted_none, counted_more, counted_all, counted_fits}
use Rattle.levels.proofs.marks.declared_count.Goals as goal

pub loop-level-init : goal.loop-level-init
loop-level-init c = counted_none _

pub overflow_add-n : goal.overflow_add-n
overflow_add-n c = omega (arith, counted_fits c.loop-level.invariant c.loop-level-test.true c.declared-n.ensures)

pub loop-level-preserved : goal.loop-level-preserved
loop-level-preserved c = counted_more c.loop-level.invariant c.loop-level-test.true c.declared-n.ensures

pub returns : goal.returns
returns c = counted_all c.loop-level.invariant (omega arith)

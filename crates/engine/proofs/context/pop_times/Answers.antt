use native.Mathlib.Omega.{arith}
use Rattle.engine.proofs.Moving.{popping_none, popping_more}
use Rattle.engine.proofs.context.pop_times.Goals as goal

pub loop-init : goal.loop-init
loop-init c = popping_none _

pub loop-preserved : goal.loop-preserved
loop-preserved c = popping_more _ (omega arith) c.loop.invariant c.pop-at.ensures

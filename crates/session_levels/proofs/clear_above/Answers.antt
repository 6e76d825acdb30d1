use Rattle.session_levels.proofs.Clearing.{cleared_start, cleared_more, cleared_all}
use native.Mathlib.Omega.{arith}
use Rattle.session_levels.proofs.clear_above.Goals as goal

pub loop-level-init : goal.loop-level-init
loop-level-init c = cleared_start _ _

pub loop-level-preserved : goal.loop-level-preserved
loop-level-preserved c = cleared_more _ _ _ c.loop-level.invariant (omega arith) c.kept.ensures

pub returns : goal.returns
returns c = cleared_all _ _ _ c.loop-level.invariant (omega arith)

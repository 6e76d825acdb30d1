use Rattle.excluded.proofs.Sets.{ranged_none, ranged_more}
use Rattle.excluded.proofs.Excluded.with_constants.Goals as goal

pub loop-i-init : goal.loop-i-init
loop-i-init c = ranged_none _ _ _

pub loop-i-preserved : goal.loop-i-preserved
loop-i-preserved c = ranged_more _ _ _ c.loop-i.invariant c.field-v.ensures.is c.with-all.ensures

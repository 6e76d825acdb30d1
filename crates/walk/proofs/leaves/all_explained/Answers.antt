use native.Mathlib.Omega.{arith}
use Rattle.walk.proofs.Explaining.{explained_none, explained_more, explained_stop, explained_all}
use Rattle.walk.proofs.leaves.all_explained.Goals as goal

pub loop-i-init : goal.loop-i-init
loop-i-init c = explained_none _ _ c.args.levels.now

pub returns-then-levels-f-eq0 : goal.returns-then-levels-f-eq0
returns-then-levels-f-eq0 c = explained_stop _ _ _ c.field-start.ensures.is c.field-count.ensures.is (omega arith) c.field-f.ensures.is c.if-levels-f-eq0.true

pub loop-i-preserved : goal.loop-i-preserved
loop-i-preserved c = explained_more _ _ _ c.args.levels.now c.loop-i.invariant c.field-f.ensures.is c.if-levels-f-eq0.false

pub returns : goal.returns
returns c = explained_all _ _ _ c.field-start.ensures.is c.field-count.ensures.is (omega arith) c.loop-i.invariant

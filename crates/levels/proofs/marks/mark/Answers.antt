use Rattle.levels.proofs.Marking.{join_new, join_old}
use Rattle.levels.proofs.marks.mark.Goals as goal

pub returns-then-levels-k-eq0 : goal.returns-then-levels-k-eq0
returns-then-levels-k-eq0 c = join_new _ _ _ c.if-levels-k-eq0.true c.requires

pub returns-else-levels-k-eq0 : goal.returns-else-levels-k-eq0
returns-else-levels-k-eq0 c = join_old _ _ _ c.if-levels-k-eq0.false

use Rattle.levels.proofs.Marking.{declared_none, declared_one}
use Rattle.levels.proofs.marks.declared.Goals as goal

pub returns-then-level-eq0 : goal.returns-then-level-eq0
returns-then-level-eq0 c = declared_none c.if-level-eq0.true

pub returns-else-level-eq0 : goal.returns-else-level-eq0
returns-else-level-eq0 c = declared_one _ c.if-level-eq0.false

use Rattle.solver_expr.proofs.Values.{is_appl_none, is_appl_some}
use Rattle.solver_expr.proofs.SExpr.func_appl.Goals as goal

pub returns-then-count-eq0 : goal.returns-then-count-eq0
returns-then-count-eq0 c = is_appl_none c.if-count-eq0.true

pub returns-else-count-eq0 : goal.returns-else-count-eq0
returns-else-count-eq0 c = is_appl_some c.if-count-eq0.false

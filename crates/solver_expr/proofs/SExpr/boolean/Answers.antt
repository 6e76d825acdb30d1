use Rattle.solver_expr.proofs.Values.{boolean_true, boolean_false}
use Rattle.solver_expr.proofs.SExpr.boolean.Goals as goal

pub returns-then-b : goal.returns-then-b
returns-then-b c = boolean_true c.if-b.true

pub returns-else-b : goal.returns-else-b
returns-else-b c = boolean_false c.if-b.false

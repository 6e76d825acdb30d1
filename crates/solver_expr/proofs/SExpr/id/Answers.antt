use Rattle.solver_expr.proofs.Values.{is_id}
use Rattle.solver_expr.proofs.SExpr.id.Goals as goal

pub returns : goal.returns
returns c = is_id _ c.requires c.field.ensures.is

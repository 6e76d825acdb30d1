use Rattle.solver_expr.proofs.Values.{is_negation}
use Rattle.solver_expr.proofs.SExpr.negation.Goals as goal

pub returns : goal.returns
returns c = is_negation _

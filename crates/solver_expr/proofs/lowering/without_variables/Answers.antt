use Rattle.solver_expr.specs.Values.{without_variables}
use Rattle.solver_expr.proofs.lowering.without_variables.Goals as goal

pub returns : goal.returns
unfolding without_variables
returns c = rw (c.field.ensures.is, c.field-2.ensures.is)

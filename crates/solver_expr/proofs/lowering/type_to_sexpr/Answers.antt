use Rattle.solver_expr.proofs.Values.{is_bool, is_int, is_user}
use Rattle.solver_expr.proofs.lowering.type_to_sexpr.Goals as goal

pub returns-in-Bool : goal.returns-in-Bool
returns-in-Bool c = is_bool _ c.in-Bool.ensures

pub returns-in-Int : goal.returns-in-Int
returns-in-Int c = is_int _ c.in-Int.ensures

pub returns-in-User : goal.returns-in-User
returns-in-User c = is_user _ _ c.requires c.in-User.ensures c.field.ensures.is

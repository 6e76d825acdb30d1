use Rattle.basics.proofs.Laws.{wrote_as}
use Rattle.solver_expr.proofs.Readers.{name_ready}
use Rattle.sexpr_names.proofs.NameText.{type_bool, type-int, user_ready, type_user}
use Rattle.sexpr_names.proofs.put_type.Goals as goal

pub name-requires : goal.name-requires
name-requires c = name_ready (user_ready _ _ c.requires c.in-User.ensures c.field.ensures.is)

pub returns-in-Bool : goal.returns-in-Bool
returns-in-Bool c = wrote_as (type_bool _ c.in-Bool.ensures) c.put_all.ensures

pub returns-in-Int : goal.returns-in-Int
returns-in-Int c = wrote_as (type-int _ c.in-Int.ensures) c.put_all-in-Int.ensures

pub returns-in-User : goal.returns-in-User
returns-in-User c = wrote_as (type_user _ _ c.in-User.ensures c.field.ensures.is c.name.ensures) c.put_all-in-User.ensures

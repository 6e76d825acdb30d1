use Rattle.basics.proofs.Laws.{wrote_as}
use Rattle.solver_expr.proofs.Readers.{name_ready}
use Rattle.sexpr_names.proofs.NameText.{name_none, name_some}
use Rattle.sexpr_names.proofs.put_name.Goals as goal

pub name-s-requires : goal.name-s-requires
name-s-requires c = name_ready c.requires

pub returns-then-is_empty : goal.returns-then-is_empty
returns-then-is_empty c = wrote_as (name_none c.name-s.ensures c.is_empty.ensures c.if-is_empty.true) c.put_all.ensures

pub returns : goal.returns
returns c = wrote_as (name_some c.name-s.ensures c.is_empty.ensures c.if-is_empty.false) c.put_all-2.ensures

use Rattle.basics.specs.Text.{ascii}
use Rattle.solver_expr.proofs.Readers.{name_ready}
use Rattle.solver_expr.proofs.Tag.{compared}
use Rattle.solver_expr.proofs.lowering.is_tag.Goals as goal

pub name-requires : goal.name-requires
name-requires c = name_ready c.requires

pub returns : goal.returns
returns c = compared (ascii "%tag") c.name.ensures c.eq.ensures

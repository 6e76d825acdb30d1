use mathlib.Core.Path.{ap}
use Rattle.basics.proofs.Laws.{wrote_as}
use Rattle.symbols.specs.Symbols.{symbol_text}
use Rattle.solver_expr.proofs.Readers.{name_ready}
use Rattle.sexpr_names.proofs.put_symbol.Goals as goal

pub name-requires : goal.name-requires
name-requires c = name_ready c.requires

pub returns : goal.returns
returns c = wrote_as (ap symbol_text c.name.ensures) c.put_symbol.ensures

use Rattle.basics.proofs.Places.{at_part, at_as}
use Rattle.smt_engines.proofs.Writers.{symbol_part, name_here}
use Rattle.smt_engines.proofs.parts.put_symbol.Goals as goal

pub field-name-requires : goal.field-name-requires
field-name-requires c = (c.requires.known, c.requires.holds)

pub put_symbol-n-requires : goal.put_symbol-n-requires
put_symbol-n-requires c = name_here _ c.requires c.field-name.ensures.is

pub returns : goal.returns
returns c = at_as (symbol_part _ c.field-name.ensures.is) (at_part c.clip-from.ensures c.put_symbol-n.ensures c.sum.ensures)

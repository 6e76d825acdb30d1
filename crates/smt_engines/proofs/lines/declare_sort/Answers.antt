use Rattle.records.proofs.Readers.{named-type}
use Rattle.basics.proofs.Places.{at_then, at_as}
use Rattle.smt_engines.proofs.Writers.{sort_line}
use Rattle.smt_engines.proofs.lines.declare_sort.Goals as goal

pub put_symbol-name-requires : goal.put_symbol-name-requires
put_symbol-name-requires c = named-type c.requires.0 c.requires.1

pub returns : goal.returns
returns c = at_as (sort_line _ _) (at_then c.well_formed.1.1.1.0.0 (at_then c.well_formed.1.1.1.0.0 c.put_at-head.ensures c.put_symbol-name.ensures) c.put_at.ensures)

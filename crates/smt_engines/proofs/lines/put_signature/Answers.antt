use Rattle.records.proofs.Readers.{named_function}
use Rattle.basics.proofs.Places.{at_then, at_as}
use Rattle.smt_engines.proofs.Writers.{signature}
use Rattle.smt_engines.proofs.lines.put_signature.Goals as goal

pub put_symbol-name-requires : goal.put_symbol-name-requires
put_symbol-name-requires c = named_function c.requires.0 c.requires.1

pub returns : goal.returns
returns c = at_as (signature _ _) (at_then c.well_formed.1.1.1.0.0 (at_then c.well_formed.1.1.1.0.0 (at_then c.well_formed.1.1.1.0.0 c.put_at-head.ensures c.put_symbol-name.ensures) c.put_at-space.ensures) c.put_types.ensures)

use Rattle.smt_engines.specs.Written.{type_text}
use native.Mathlib.Omega.{arith}
use mathlib.Core.Path.{ap}
use Rattle.records.proofs.Readers.{reads_term}
use Rattle.basics.proofs.Places.{at_then, at_as}
use Rattle.smt_engines.proofs.Writers.{literal_line}
use Rattle.smt_engines.proofs.lines.declare_literal.Goals as goal

pub field-requires : goal.field-requires
field-requires c = reads_term c.requires.0 2 (omega arith) c.requires.1

pub put_type-typ-requires : goal.put_type-typ-requires
put_type-typ-requires c = (c.requires.0, rw c.field.ensures.is c.requires.2.typ)

pub returns : goal.returns
returns c = at_as (literal_line _ _) (at_then c.well_formed.1.1.1.0.0 (at_then c.well_formed.1.1.1.0.0 (at_then c.well_formed.1.1.1.0.0 (at_then c.well_formed.1.1.1.0.0 c.put_at-head.ensures c.put_literal_name-name.ensures) c.put_at-none.ensures) (at_as (ap (type_text _) c.field.ensures.is) c.put_type-typ.ensures)) c.put_at.ensures)

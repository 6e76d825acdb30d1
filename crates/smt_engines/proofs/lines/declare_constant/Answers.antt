use Rattle.smt_engines.specs.Written.{type_text}
use native.Mathlib.Omega.{arith}
use mathlib.Core.Path.{ap}
use Rattle.records.proofs.Readers.{named_constant, reads_constant}
use Rattle.basics.proofs.Places.{at_then, at_as}
use Rattle.smt_engines.proofs.Writers.{constant_line}
use Rattle.smt_engines.proofs.lines.declare_constant.Goals as goal

pub put_symbol-name-requires : goal.put_symbol-name-requires
put_symbol-name-requires c = named_constant c.requires.0 c.requires.1

pub field-requires : goal.field-requires
field-requires c = reads_constant c.requires.0 1 (omega arith) c.requires.1

pub put_type-typ-requires : goal.put_type-typ-requires
put_type-typ-requires c = (c.requires.0, rw c.field.ensures.is (c.requires.0.constant _ c.requires.1).typ)

pub returns : goal.returns
returns c = at_as (constant_line _ _) (at_then c.well_formed.1.1.1.0.0 (at_then c.well_formed.1.1.1.0.0 (at_then c.well_formed.1.1.1.0.0 (at_then c.well_formed.1.1.1.0.0 c.put_at-head.ensures c.put_symbol-name.ensures) c.put_at-none.ensures) (at_as (ap (type_text _) c.field.ensures.is) c.put_type-typ.ensures)) c.put_at.ensures)

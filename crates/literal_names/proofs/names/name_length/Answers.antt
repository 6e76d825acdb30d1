use native.Mathlib.Omega.{arith}
use Rattle.records.proofs.Readers.{reads_term}
use Rattle.literal_names.proofs.Naming.{reads_record, lengths}
use Rattle.literal_names.proofs.names.name_length.Goals as goal

pub field-requires : goal.field-requires
field-requires c = reads_term c.requires.0 1 (omega arith) c.requires.1

pub field-s-requires : goal.field-s-requires
field-s-requires c = reads_record _ c.requires.0 1 (omega arith) (omega (arith, c.field.ensures.is, c.requires.2.name))

pub field-requires-2 : goal.field-requires-2
field-requires-2 c = reads_term c.requires.0 2 (omega arith) c.requires.1

pub type_length-requires : goal.type_length-requires
type_length-requires c = (c.requires.0, omega (arith, c.field-2.ensures.is, c.requires.2.typ))

pub overflow_add-result : goal.overflow_add-result
overflow_add-result c = omega (arith, c.field-s.ensures.small, c.type_length.ensures.small)

pub returns : goal.returns
returns c = lengths _ c.requires.0 _ c.requires.2 c.field.ensures.is c.field-s.ensures.is c.field-2.ensures.is c.type_length.ensures.is

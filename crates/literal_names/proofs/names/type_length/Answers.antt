use native.Mathlib.Omega.{arith}
use mathlib.Core.Path.{ap}
use lib.ListN.{length}
use Rattle.records.proofs.Readers.{reads_type}
use Rattle.literal_names.proofs.Naming.{string_bool, string_int, user_type, reads_record, user_length}
use Rattle.literal_names.proofs.names.type_length.Goals as goal

pub field-requires : goal.field-requires
field-requires c = reads_type c.requires.0 (user_type _ c.requires.1 c.in-User.ensures)

pub field-requires-in-User : goal.field-requires-in-User
field-requires-in-User c = reads_record _ c.requires.0 1 (omega arith) (omega (arith, c.field.ensures.is, c.requires.0.type_name _ (user_type _ c.requires.1 c.in-User.ensures)))

pub returns-in-Bool : goal.returns-in-Bool
returns-in-Bool c = record { is = ap length (string_bool _ c.in-Bool.ensures); small = omega arith }

pub returns-in-Int : goal.returns-in-Int
returns-in-Int c = record { is = ap length (string_int _ c.in-Int.ensures); small = omega arith }

pub returns-in-User : goal.returns-in-User
returns-in-User c = record { is = user_length _ c.requires.0 _ c.requires.1 c.in-User.ensures c.field.ensures.is c.field-in-User.ensures.is; small = c.field-in-User.ensures.small }

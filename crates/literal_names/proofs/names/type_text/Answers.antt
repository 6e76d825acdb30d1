use mathlib.Core.Path.{◌∙◌}
use Rattle.records.proofs.Readers.{named-type}
use Rattle.literal_names.proofs.Naming.{string_bool, string_int, string_user, user_type}
use Rattle.literal_names.proofs.names.type_text.Goals as goal

pub named-requires : goal.named-requires
named-requires c = named-type c.requires.0 (user_type _ c.requires.1 c.in-User.ensures)

pub returns-in-Bool : goal.returns-in-Bool
returns-in-Bool c = string_bool _ c.in-Bool.ensures

pub returns-in-Int : goal.returns-in-Int
returns-in-Int c = string_int _ c.in-Int.ensures

pub returns-in-User : goal.returns-in-User
returns-in-User c = c.named.ensures ∙ string_user _ _ c.in-User.ensures

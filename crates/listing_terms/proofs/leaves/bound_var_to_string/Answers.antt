use Rattle.records.proofs.Readers.{named_constant}
use Rattle.basics.proofs.Places.{at_as}
use Rattle.listing_terms.proofs.Words.{var_text}
use Rattle.listing_terms.proofs.leaves.bound_var_to_string.Goals as goal

pub named-name-requires : goal.named-name-requires
named-name-requires c = named_constant c.requires.0 c.requires.1

pub put_typed-requires : goal.put_typed-requires
put_typed-requires c = (c.requires.0, rw c.field-typ.ensures.is (c.requires.0.constant _ c.requires.1).typ)

pub returns : goal.returns
returns c = at_as (var_text _ _ c.named-name.ensures c.field-typ.ensures.is) c.put_typed.ensures

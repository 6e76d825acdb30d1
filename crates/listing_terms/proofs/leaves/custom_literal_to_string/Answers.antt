use Rattle.records.proofs.Readers.{named_term}
use Rattle.basics.proofs.Places.{at_as}
use Rattle.listing_terms.proofs.Words.{literal_text}
use Rattle.listing_terms.proofs.leaves.custom_literal_to_string.Goals as goal

pub named-name-requires : goal.named-name-requires
named-name-requires c = named_term c.requires.0 c.requires.1 c.requires.2.name

pub put_typed-requires : goal.put_typed-requires
put_typed-requires c = (c.requires.0, rw c.field-typ.ensures.is c.requires.2.typ)

pub returns : goal.returns
returns c = at_as (literal_text _ _ c.named-name.ensures c.field-typ.ensures.is) c.put_typed.ensures

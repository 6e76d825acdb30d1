use Rattle.basics.proofs.Places.{at_then}
use Rattle.listing_terms.proofs.leaves.put_typed.Goals as goal

pub returns : goal.returns
returns c = let short = c.well_formed.1.1.1.1.1.0.0 in at_then short (at_then short c.put_at-named.ensures c.put_at-behind.ensures) c.type_to_string.ensures

use Rattle.basics.proofs.Places.{at_part}
use Rattle.listing_terms.proofs.leaves.type_to_string.Goals as goal

pub returns : goal.returns
returns c = at_part c.clip-k.ensures c.put_type-n.ensures c.sum.ensures

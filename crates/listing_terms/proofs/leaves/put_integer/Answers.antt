use Rattle.basics.proofs.Places.{at_as, at_part}
use Rattle.listing_terms.proofs.Words.{integer-text}
use Rattle.listing_terms.proofs.leaves.put_integer.Goals as goal

pub returns : goal.returns
returns c = at_as (integer-text _ _ c.integer_bits.ensures) (at_part c.clip-k.ensures c.put_int-n.ensures c.sum.ensures)

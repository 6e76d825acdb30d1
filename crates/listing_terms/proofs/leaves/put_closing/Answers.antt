use Rattle.basics.proofs.Places.{at_part}
use native.Mathlib.Omega.{arith}
use Rattle.listing_terms.proofs.leaves.put_closing.Goals as goal

pub returns : goal.returns
returns c = at_part c.clip-k.ensures (c.repeat-n.ensures.text c.args.pending (omega arith)) c.sum.ensures

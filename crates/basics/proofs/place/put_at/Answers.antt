use Rattle.basics.proofs.Places.{at_part}
use Rattle.basics.proofs.place.put_at.Goals as goal

pub returns : goal.returns
returns c = at_part c.clip-k.ensures c.put_all-n.ensures c.sum.ensures

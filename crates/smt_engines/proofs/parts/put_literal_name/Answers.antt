use Rattle.basics.proofs.Places.{at_part}
use Rattle.smt_engines.proofs.parts.put_literal_name.Goals as goal

pub returns : goal.returns
returns c = at_part c.clip-k.ensures c.put_literal-n.ensures c.sum.ensures

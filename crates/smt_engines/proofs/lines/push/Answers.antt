use Rattle.basics.proofs.Places.{at_as}
use Rattle.smt_engines.proofs.Writers.{push_line}
use Rattle.smt_engines.proofs.lines.push.Goals as goal

pub returns : goal.returns
returns c = at_as push_line c.put_at.ensures

use Rattle.basics.proofs.Places.{at_as}
use Rattle.smt_engines.proofs.Writers.{pop_line}
use Rattle.smt_engines.proofs.lines.pop.Goals as goal

pub returns : goal.returns
returns c = at_as pop_line c.put_at.ensures

use Rattle.basics.proofs.Places.{at_as}
use Rattle.smt_engines.proofs.Writers.{check_line}
use Rattle.smt_engines.proofs.lines.check_sat.Goals as goal

pub returns : goal.returns
returns c = at_as check_line c.put_at.ensures

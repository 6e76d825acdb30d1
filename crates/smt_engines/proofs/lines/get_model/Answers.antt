use Rattle.basics.proofs.Places.{at_as}
use Rattle.smt_engines.proofs.Writers.{model_line}
use Rattle.smt_engines.proofs.lines.get_model.Goals as goal

pub returns : goal.returns
returns c = at_as model_line c.put_at.ensures

use Rattle.basics.proofs.Places.{at_as}
use Rattle.smt_engines.proofs.Writers.{type_part}
use Rattle.smt_engines.proofs.parts.put_type.Goals as goal

pub returns : goal.returns
returns c = at_as (type_part _ _ c.type_to_sexpr-e.ensures) c.put_sexpr.ensures

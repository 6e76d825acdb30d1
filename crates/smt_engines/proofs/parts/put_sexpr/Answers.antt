use Rattle.smt_engines.proofs.Writers.{flat_part}
use Rattle.smt_engines.proofs.parts.put_sexpr.Goals as goal

pub returns : goal.returns
returns c = flat_part _ _ _ c.clip-k.ensures c.to_string-n.ensures c.sum.ensures

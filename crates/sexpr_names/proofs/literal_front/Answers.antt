use Rattle.basics.proofs.Laws.{wrote_then, wrote_as}
use Rattle.solver_expr.proofs.Readers.{name_ready}
use Rattle.sexpr_names.proofs.literal_front.Goals as goal

pub name-requires : goal.name-requires
name-requires c = name_ready c.requires

pub returns : goal.returns
returns c = wrote_then c.well_formed.1.1.0.0 c.put-bar.ensures c.clip-k.ensures (wrote_as c.name.ensures c.put_all-s.ensures) c.sum.ensures

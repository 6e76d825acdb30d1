use Rattle.basics.proofs.Places.{at_as}
use Rattle.solver_expr.specs.Values.{Fine, FineRow}
use Rattle.smt_engines.proofs.Writers.{types-part}
use Rattle.smt_engines.proofs.parts.put_types.Goals as goal

pub put_sexpr-requires : goal.put_sexpr-requires
unfolding Fine FineRow
put_sexpr-requires c = record { promise = c.requires.0; fine = c.requires.1 }

pub returns : goal.returns
returns c = at_as (types-part _ _ _) c.put_sexpr.ensures

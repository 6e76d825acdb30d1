use Rattle.basics.proofs.Places.{at_then}
use Rattle.smt_engines.proofs.assumptions.put_assertion.Goals as goal

pub returns : goal.returns
returns c = let short = c.well_formed.1.1.1.1.0.0 in at_then short (at_then short c.put_at-head.ensures c.put_sexpr-body.ensures) c.put_at.ensures

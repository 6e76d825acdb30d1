use Rattle.basics.proofs.Places.{at_as}
use Rattle.smt_engines.proofs.Writers.{assume_line, term_part}
use Rattle.smt_engines.proofs.assumptions.assume.Goals as goal

pub returns : goal.returns
returns c = at_as (assume_line _ _ _ (term_part _ _ c.to_sexpr.ensures)) c.put_assertion.ensures

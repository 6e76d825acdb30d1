use Rattle.basics.proofs.Places.{at_as}
use Rattle.smt_engines.proofs.Writers.{assume_not_line, negated_part}
use Rattle.smt_engines.proofs.assumptions.assume_not.Goals as goal

pub put_assertion-requires : goal.put_assertion-requires
put_assertion-requires c = record { promise = c.requires.0; fine = c.negation.ensures.fine _ c.requires.1 }

pub returns : goal.returns
returns c = at_as (assume_not_line _ _ _ (negated_part _ _ c.negation.ensures)) c.put_assertion.ensures

use Rattle.solvers.specs.Session.{fresh_session}
use Rattle.solvers.proofs.Session.fresh.Goals as goal

pub returns : goal.returns
unfolding fresh_session
returns c = cc

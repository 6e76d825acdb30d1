use Rattle.solvers.specs.Session.{closed}
use Rattle.replies.proofs.closing.free.Goals as goal

pub returns : goal.returns
unfolding closed
returns c = cc

use Rattle.solvers.specs.Session.{is_unsat}
use Rattle.replies.proofs.reply.is_unsat.Goals as goal

pub returns : goal.returns
unfolding is_unsat
returns c = c.same.ensures

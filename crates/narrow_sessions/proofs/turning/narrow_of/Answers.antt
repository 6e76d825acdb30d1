use Rattle.solvers.specs.Narrow.{narrow_of}
use Rattle.narrow_sessions.proofs.turning.narrow_of.Goals as goal

pub returns : goal.returns
unfolding narrow_of
returns c = rw c.narrow_levels.ensures

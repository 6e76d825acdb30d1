use Rattle.solvers.specs.Narrow.{wide_of}
use Rattle.narrow_sessions.proofs.turning.wide_of.Goals as goal

pub returns : goal.returns
unfolding wide_of
returns c = rw c.wide_levels.ensures

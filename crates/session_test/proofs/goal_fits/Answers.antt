use Rattle.std.proofs.Common.{inl, inr}
use Rattle.solvers.specs.Calls.{goal_fits}
use Rattle.session_test.proofs.goal_fits.Goals as goal

pub returns-in-Nothing : goal.returns-in-Nothing
unfolding goal_fits
returns-in-Nothing c = rw c.in-Nothing.is

pub returns-in-Reply : goal.returns-in-Reply
unfolding goal_fits
returns-in-Reply c = elim c.in-Reply.is [ inl e ↦ rw e | inr e ↦ rw e ]

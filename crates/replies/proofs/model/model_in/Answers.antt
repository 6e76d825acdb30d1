use Rattle.basics.proofs.Bool.{passed, failed}
use Rattle.solvers.specs.Calls.{owes}
use Rattle.replies.proofs.Behind.{model_outside, model_not_owed, model-owed}
use Rattle.std.proofs.lemmas.Bool.{not_from_false, not_from_true}
use Rattle.replies.proofs.model.model_in.Goals as goal

pub returns-then-not-is_session : goal.returns-then-not-is_session
returns-then-not-is_session c = model_outside _ _ _ _ _ _ (failed c.is_session.ensures (not_from_false _ c.if-not-is_session.true))

pub returns-in-Model : goal.returns-in-Model
unfolding owes
returns-in-Model c = model-owed _ _ _ _ _ _ (passed c.is_session.ensures (not_from_true _ c.if-not-is_session.false)) (rw c.in-Model.is) c.model_owed.ensures

pub returns-in-Nothing : goal.returns-in-Nothing
returns-in-Nothing c = model_not_owed _ _ _ _ _ _ (passed c.is_session.ensures (not_from_true _ c.if-not-is_session.false)) c.in-Nothing.is

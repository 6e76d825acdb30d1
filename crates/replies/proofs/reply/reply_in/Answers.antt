use Rattle.basics.proofs.Bool.{passed, failed}
use Rattle.solvers.specs.Calls.{owes}
use Rattle.replies.proofs.Behind.{reply_outside, reply_not_owed, reply-owed}
use Rattle.std.proofs.lemmas.Bool.{not_from_false, not_from_true}
use Rattle.replies.proofs.reply.reply_in.Goals as goal

pub returns-then-not-is_session : goal.returns-then-not-is_session
returns-then-not-is_session c = reply_outside _ _ _ _ _ _ (failed c.is_session.ensures (not_from_false _ c.if-not-is_session.true))

pub returns-in-Reply : goal.returns-in-Reply
unfolding owes
returns-in-Reply c = reply-owed _ _ _ _ _ _ (passed c.is_session.ensures (not_from_true _ c.if-not-is_session.false)) (rw c.in-Reply.is) c.reply_owed.ensures

pub returns-in-Nothing : goal.returns-in-Nothing
returns-in-Nothing c = reply_not_owed _ _ _ _ _ _ (passed c.is_session.ensures (not_from_true _ c.if-not-is_session.false)) c.in-Nothing.is

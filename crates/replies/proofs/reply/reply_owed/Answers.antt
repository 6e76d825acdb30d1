use mathlib.Core.Path.{sym, ◌∙◌}
use Rattle.solvers.specs.Returned.{lent_text}
use Rattle.replies.proofs.Behind.{check_failed, goal_proved, model_asked}
use Rattle.replies.proofs.reply.reply_owed.Goals as goal

pub returns-in-Err : goal.returns-in-Err
unfolding lent_text
returns-in-Err c = check_failed _ _ _ c.in-Err.is c.close_unproved.ensures

pub returns-in-Ok : goal.returns-in-Ok
returns-in-Ok c = goal_proved _ _ _ c.in-Ok.is (sym c.is_unsat.ensures ∙ c.if-is_unsat.true) c.close_proved.ensures

pub returns-in-Ok-2 : goal.returns-in-Ok-2
returns-in-Ok-2 c = model_asked _ _ _ c.in-Ok.is (sym c.is_unsat.ensures ∙ c.if-is_unsat.false) c.ask_model.ensures

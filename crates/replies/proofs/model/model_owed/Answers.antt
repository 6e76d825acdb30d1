use mathlib.Core.Path.{sym, ◌∙◌}
use Rattle.replies.proofs.Behind.{reply_unsat, model_given}
use Rattle.replies.proofs.model.model_owed.Goals as goal

pub returns-then-is_unsat : goal.returns-then-is_unsat
returns-then-is_unsat c = reply_unsat _ _ _ _ _ (sym c.is_unsat.ensures ∙ c.if-is_unsat.true)

pub returns : goal.returns
returns c = model_given _ _ _ _ _ (sym c.is_unsat.ensures ∙ c.if-is_unsat.false) c.close_unproved.ensures

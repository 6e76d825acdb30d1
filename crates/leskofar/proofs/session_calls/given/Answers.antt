use mathlib.Core.Path.{sym, ap, ◌∙◌}
use Rattle.std.specs.Prelude.{Ok}
use Rattle.solvers.specs.declared.Answer.{Answer}
use Rattle.leskofar.specs.Exports.{answered}
use Rattle.solvers.specs.Left.{answer_value}
use Rattle.leskofar.proofs.session_calls.given.Goals as goal

pub returns-in-Written : goal.returns-in-Written
unfolding answered answer_value
returns-in-Written c = c.accepted.ensures ∙ sym (ap (λ (a : Answer). answered (answer_value (Ok a))) c.in-Written.is)

pub returns-in-Proved : goal.returns-in-Proved
unfolding answered answer_value
returns-in-Proved c = c.accepted-in-Proved.ensures ∙ sym (ap (λ (a : Answer). answered (answer_value (Ok a))) c.in-Proved.is)

pub returns-in-Unproved : goal.returns-in-Unproved
unfolding answered answer_value
returns-in-Unproved c = c.accepted-in-Unproved.ensures ∙ sym (ap (λ (a : Answer). answered (answer_value (Ok a))) c.in-Unproved.is)

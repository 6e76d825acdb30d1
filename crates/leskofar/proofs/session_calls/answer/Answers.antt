use Prim.Native.Nat.{ℕ}
use Rattle.basics.specs.Outcome.{refused}
use mathlib.Core.Path.{sym, ap, ◌∙◌}
use Rattle.leskofar.specs.Exports.{answered}
use Rattle.solvers.specs.Left.{answer_value}
use Rattle.leskofar.proofs.session_calls.answer.Goals as goal

pub returns-in-Ok : goal.returns-in-Ok
returns-in-Ok c = c.given.ensures ∙ sym (ap answered (ap answer_value c.in-Ok.is))

pub returns-in-Err : goal.returns-in-Err
unfolding answered answer_value
returns-in-Err c = ap (λ (n : ℕ). answered (refused n)) c.number.ensures ∙ sym (ap answered (ap answer_value c.in-Err.is))

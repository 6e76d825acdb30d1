use Prim.Native.Nat.{ℕ}
use mathlib.Core.Path.{sym, ap, ◌∙◌}
use Rattle.basics.specs.Outcome.{refused}
use Rattle.leskofar.specs.Exports.{appended}
use Rattle.book_writer.specs.Writing.{appended_value}
use Rattle.leskofar.proofs.writer_calls.answer.Goals as goal

pub returns-in-Ok : goal.returns-in-Ok
unfolding appended appended_value
returns-in-Ok c = cc

pub returns-in-Err : goal.returns-in-Err
unfolding appended appended_value
returns-in-Err c = ap (λ (n : ℕ). appended (refused n)) c.number.ensures ∙ sym (ap appended (ap appended_value c.in-Err.is))

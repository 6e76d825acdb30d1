use Prim.Native.Nat.{ℕ}
use Rattle.basics.specs.Outcome.{refused}
use mathlib.Core.Path.{sym, ap, ◌∙◌}
use Rattle.solver_expr.specs.Print.{printed_value}
use Rattle.leskofar.specs.Exports.{told}
use Rattle.leskofar.proofs.print_calls.tell.Goals as goal

pub returns-in-Ok : goal.returns-in-Ok
unfolding told printed_value
returns-in-Ok c = sym (ap told (ap printed_value c.in-Ok.is))

pub returns-in-Err : goal.returns-in-Err
unfolding told printed_value
returns-in-Err c = ap (λ (n : ℕ). told (refused n)) c.number.ensures ∙ sym (ap told (ap printed_value c.in-Err.is))

use native.Mathlib.Omega.{arith}
use lib.ListN.{length}
use Rattle.solver_expr.proofs.Answers.{measured, fitted_done, fitted_long}
use Rattle.solver_expr.proofs.measured.fitted.Goals as goal

pub returns-then-text-whole : goal.returns-then-text-whole
returns-then-text-whole g c = λ x writes.
    let w = writes _ _ _ (omega arith) c.write-whole.ensures in
    fitted_long x (omega (arith, w.counted, c.if-text-whole.true))

pub returns : goal.returns
returns g c = λ x writes.
    let w = writes _ _ _ (omega arith) c.write-whole.ensures in
    let v = writes _ _ _ (omega arith) c.write.ensures in
    fitted_done (measured {room = length c.args.text.now} w.counted c.if-text-whole.false (omega (arith, c.well_formed))) c.if-text-whole.false v

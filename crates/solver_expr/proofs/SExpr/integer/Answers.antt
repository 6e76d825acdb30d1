use Rattle.solver_expr.proofs.Values.{integer_bare, integer_minus}
use Rattle.solver_expr.proofs.SExpr.integer.Goals as goal

pub returns-then-bits-lt-SIGN : goal.returns-then-bits-lt-SIGN
returns-then-bits-lt-SIGN c = integer_bare c.if-bits-lt-SIGN.true

pub returns-else-bits-lt-SIGN : goal.returns-else-bits-lt-SIGN
returns-else-bits-lt-SIGN c = integer_minus c.if-bits-lt-SIGN.false c.ranges.bits.fits c.wrapping_neg.ensures c.wrapping_neg.type_inv

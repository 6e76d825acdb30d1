use native.Mathlib.Omega.{arith}
use mathlib.Core.Path.{refl}
use Rattle.levels.proofs.Declaring.{user_new, user_old}
use Rattle.levels.proofs.types.declare_type.Goals as goal

pub returns-then-levels-k-eq0 : goal.returns-then-levels-k-eq0
returns-then-levels-k-eq0 c = user_new _ _ c.if-levels-k-eq0.true c.mark.ensures c.declare_sort-at.ensures refl

pub returns-else-levels-k-eq0 : goal.returns-else-levels-k-eq0
returns-else-levels-k-eq0 c = user_old _ _ c.if-levels-k-eq0.false (omega (arith, c.well_formed.1.1.1.1.0))

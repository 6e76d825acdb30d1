use native.Mathlib.Omega.{arith}
use mathlib.Core.Path.{refl, ◌∙◌}
use Rattle.levels.proofs.Declaring.{variables_none, variables_more}
use Rattle.levels.proofs.types.declare_constant_types.Goals as goal

pub loop-i-init : goal.loop-i-init
loop-i-init c = (variables_none _ _ _ _ _ _ (omega (arith, c.well_formed.1.1.1.1.1.0)), refl)

pub loop-i-preserved : goal.loop-i-preserved
loop-i-preserved c = (variables_more _ _ _ c.well_formed.1.1.1.1.1.1.0.0 c.loop-i.invariant.0 c.field-v.ensures.is c.declare_type_of-done.ensures, c.declare_type_of-done.auto.levels ∙ c.loop-i.invariant.1)

use mathlib.Core.Path.{refl}
use Rattle.levels.proofs.Declaring.{constant_is}
use Rattle.levels.proofs.types.declare_constant.Goals as goal

pub returns : goal.returns
returns c = constant_is _ _ c.well_formed.1.1.1.1.1.0.0 c.declare_type_of-done.ensures c.mark.ensures c.declare_constant-at.ensures refl

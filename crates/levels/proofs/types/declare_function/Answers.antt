use mathlib.Core.Path.{refl}
use Rattle.levels.proofs.Steps.{did_length}
use Rattle.levels.proofs.Declaring.{function_is}
use Rattle.levels.proofs.types.declare_function.Goals as goal

pub returns : goal.returns
returns c = function_is _ _ c.well_formed.1.1.1.1.1.0.0 c.field-start.ensures.is c.field-count.ensures.is c.declare_types-inputs.ensures c.field-typ.ensures.is c.declare_new_types-done.ensures c.mark.ensures c.declare_function-at.ensures refl (did_length c.declare_types-inputs.ensures)

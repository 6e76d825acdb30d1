use mathlib.Core.Path.{refl}
use Rattle.literals.proofs.Declaring.{literal_new}
use Rattle.literals.proofs.send_literal.Goals as goal

pub returns : goal.returns
returns c = literal_new _ _ c.well_formed.1.1.1.1.1.0.0 c.field-typ.ensures.is c.declare_new_types-done.ensures c.mark.ensures c.declare_literal-at.ensures refl

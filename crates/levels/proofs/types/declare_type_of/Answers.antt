use Rattle.levels.proofs.types.declare_type_of.Goals as goal

pub returns : goal.returns
returns c = rw c.field-typ.ensures.is at c.declare_new_types.ensures

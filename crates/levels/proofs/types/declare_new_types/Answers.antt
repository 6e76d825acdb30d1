use native.Mathlib.Omega.{arith}
use Rattle.levels.proofs.Declaring.{type_none, type_some}
use Rattle.levels.proofs.types.declare_new_types.Goals as goal

pub declare_type-requires : goal.declare_type-requires
declare_type-requires c = (c.requires.0, omega (arith, c.requires.1, c.in-User.ensures))

pub returns-in-Bool : goal.returns-in-Bool
returns-in-Bool c = type_none _ _ (omega (arith, c.in-Bool.ensures)) (omega (arith, c.well_formed.1.1.1.1.0))

pub returns-in-Int : goal.returns-in-Int
returns-in-Int c = type_none _ _ (omega (arith, c.in-Int.ensures)) (omega (arith, c.well_formed.1.1.1.1.0))

pub returns-in-User : goal.returns-in-User
returns-in-User c = type_some _ _ c.in-User.ensures c.declare_type.ensures

use Prim.Native.Nat.{ℕ, ◌+◌, ◌*◌}
use native.Mathlib.Omega.{arith}
use mathlib.Core.Path.{refl, ap}
use Rattle.solver_expr.specs.Values.{FineRow}
use Rattle.sexpr_rows.specs.Rows.{row_length}
use Rattle.sexpr_rows.proofs.Turns.{row_as, length_as}
use Rattle.sexpr_rows.proofs.row_length.Goals as goal

pub field-requires : goal.field-requires
unfolding FineRow
field-requires c = (omega arith, record { laid = c.requires.promise.terms_laid; here = (row_as _ c.in-Appl.is c.requires).fine.here; within = omega arith })

pub field-requires-in-BoundVars : goal.field-requires-in-BoundVars
unfolding FineRow
field-requires-in-BoundVars c = (omega arith, record { laid = c.requires.promise.terms_laid; here = (row_as _ c.in-BoundVars.is c.requires).fine.here; within = omega arith })

pub field-requires-in-Annotated : goal.field-requires-in-Annotated
unfolding FineRow
field-requires-in-Annotated c = (omega arith, record { laid = c.requires.promise.terms_laid; here = (row_as _ c.in-Annotated.is c.requires).fine.here; within = omega arith })

pub field-requires-in-Terms : goal.field-requires-in-Terms
unfolding FineRow
field-requires-in-Terms c = (omega arith, record { laid = c.requires.promise.patterns_laid; here = (row_as _ c.in-Terms.is c.requires).fine; within = omega arith })

pub field-requires-in-Types : goal.field-requires-in-Types
unfolding FineRow
field-requires-in-Types c = (omega arith, record { laid = c.requires.promise.functions_laid; here = (row_as _ c.in-Types.is c.requires).fine; within = omega arith })

pub returns-in-Negation : goal.returns-in-Negation
unfolding row_length
returns-in-Negation c = length_as _ c.in-Negation.is refl

pub returns-in-Minus : goal.returns-in-Minus
unfolding row_length
returns-in-Minus c = length_as _ c.in-Minus.is refl

pub returns-in-Appl : goal.returns-in-Appl
unfolding row_length
returns-in-Appl c = length_as _ c.in-Appl.is (ap (λ (n : ℕ). 1 + n) c.field.ensures.is)

pub returns-in-Ite : goal.returns-in-Ite
unfolding row_length
returns-in-Ite c = length_as _ c.in-Ite.is refl

pub returns-in-Let : goal.returns-in-Let
unfolding row_length
returns-in-Let c = length_as _ c.in-Let.is refl

pub returns-in-Bindings : goal.returns-in-Bindings
unfolding row_length
returns-in-Bindings c = length_as _ c.in-Bindings.is refl

pub returns-in-Binding : goal.returns-in-Binding
unfolding row_length
returns-in-Binding c = length_as _ c.in-Binding.is refl

pub returns-in-Quantifier : goal.returns-in-Quantifier
unfolding row_length
returns-in-Quantifier c = length_as _ c.in-Quantifier.is refl

pub returns-in-BoundVars : goal.returns-in-BoundVars
unfolding row_length
returns-in-BoundVars c = length_as _ c.in-BoundVars.is c.field-in-BoundVars.ensures.is

pub returns-in-BoundVar : goal.returns-in-BoundVar
unfolding row_length
returns-in-BoundVar c = length_as _ c.in-BoundVar.is refl

pub returns-in-Annotated : goal.returns-in-Annotated
unfolding row_length
returns-in-Annotated c = length_as _ c.in-Annotated.is (ap (λ (n : ℕ). 2 + 2 * n) c.field-in-Annotated.ensures.is)

pub returns-in-Terms : goal.returns-in-Terms
unfolding row_length
returns-in-Terms c = length_as _ c.in-Terms.is c.field-in-Terms.ensures.is

pub returns-in-Types : goal.returns-in-Types
unfolding row_length
returns-in-Types c = length_as _ c.in-Types.is c.field-in-Types.ensures.is

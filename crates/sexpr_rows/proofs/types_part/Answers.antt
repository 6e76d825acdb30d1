use native.Mathlib.Omega.{arith}
use Rattle.solver_expr.specs.Values.{FineRow}
use Rattle.sexpr_rows.proofs.Parts.{types_listed, types_ready, types_each}
use Rattle.sexpr_rows.proofs.types_part.Goals as goal

pub field-requires : goal.field-requires
unfolding FineRow
field-requires c = (omega arith, record { laid = c.requires.promise.functions_laid; here = c.requires.fine; within = omega arith })

pub entry-k-requires : goal.entry-k-requires
entry-k-requires c = types_listed _ _ _ c.requires c.field.ensures.is

pub type_to_sexpr-requires : goal.type_to_sexpr-requires
type_to_sexpr-requires c = types_ready _ _ _ c.requires c.field.ensures.is c.entry-k.ensures.is

pub returns : goal.returns
returns c = types_each _ _ _ c.requires c.field.ensures.is c.entry-k.ensures.is c.type_to_sexpr.ensures

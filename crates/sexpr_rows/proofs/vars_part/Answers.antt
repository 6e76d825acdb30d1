use native.Mathlib.Omega.{arith}
use Rattle.solver_expr.specs.Values.{FineRow}
use Rattle.sexpr_rows.proofs.Parts.{vars_listed, vars_each}
use Rattle.sexpr_rows.proofs.vars_part.Goals as goal

pub field-requires : goal.field-requires
unfolding FineRow
field-requires c = (omega arith, record { laid = c.requires.promise.terms_laid; here = c.requires.fine.here; within = omega arith })

pub entry-v-requires : goal.entry-v-requires
entry-v-requires c = vars_listed _ _ _ c.requires c.field.ensures.is

pub returns : goal.returns
returns c = vars_each _ _ _ c.requires c.field.ensures.is c.entry-v.ensures.is

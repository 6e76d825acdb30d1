use native.Mathlib.Omega.{arith}
use Rattle.solver_expr.specs.Values.{FineRow}
use Rattle.sexpr_rows.proofs.Parts.{terms_listed, terms_each}
use Rattle.sexpr_rows.proofs.terms_part.Goals as goal

pub field-requires : goal.field-requires
unfolding FineRow
field-requires c = (omega arith, record { laid = c.requires.promise.patterns_laid; here = c.requires.fine; within = omega arith })

pub entry-requires : goal.entry-requires
entry-requires c = terms_listed _ _ _ c.requires c.field.ensures.is

pub returns : goal.returns
returns c = terms_each _ _ _ c.requires c.field.ensures.is c.entry.ensures.is

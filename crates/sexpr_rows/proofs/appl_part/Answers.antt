use native.Mathlib.Omega.{arith}
use Rattle.solver_expr.specs.Values.{FineRow}
use Rattle.sexpr_rows.proofs.Parts.{appl_head, appl_listed, appl_rest}
use Rattle.sexpr_rows.proofs.appl_part.Goals as goal

pub field-requires : goal.field-requires
unfolding FineRow
field-requires c = (omega arith, record { laid = c.requires.promise.terms_laid; here = c.requires.fine.here; within = omega arith })

pub entry-requires : goal.entry-requires
entry-requires c = appl_listed _ _ _ _ c.requires c.if-i-eq-HEAD.false c.field.ensures.is

pub returns-then-i-eq-HEAD : goal.returns-then-i-eq-HEAD
returns-then-i-eq-HEAD c = appl_head _ _ _ c.requires c.if-i-eq-HEAD.true

pub returns-else-i-eq-HEAD : goal.returns-else-i-eq-HEAD
returns-else-i-eq-HEAD c = appl_rest _ _ _ _ c.requires c.if-i-eq-HEAD.false c.field.ensures.is c.entry.ensures.is

use native.Mathlib.Omega.{arith}
use Rattle.solver_expr.specs.Values.{FineRow}
use Rattle.sexpr_rows.proofs.Parts.{body_bare, body_annotated}
use Rattle.sexpr_rows.proofs.body_part.Goals as goal

pub field-requires : goal.field-requires
unfolding FineRow
field-requires c = (omega arith, record { laid = c.requires.promise.terms_laid; here = c.requires.fine.here; within = omega arith })

pub field-requires-then-field-eq0 : goal.field-requires-then-field-eq0
unfolding FineRow
field-requires-then-field-eq0 c = (omega arith, record { laid = c.requires.promise.terms_laid; here = c.requires.fine.here; within = omega arith })

pub returns-then-field-eq0 : goal.returns-then-field-eq0
returns-then-field-eq0 c = body_bare _ _ c.requires c.field.ensures.is c.if-field-eq0.true c.field-then-field-eq0.ensures.is

pub returns-else-field-eq0 : goal.returns-else-field-eq0
returns-else-field-eq0 c = body_annotated _ _ c.requires c.field.ensures.is c.if-field-eq0.false

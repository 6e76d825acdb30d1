use native.Mathlib.Omega.{arith}
use Rattle.solver_expr.specs.Values.{FineRow}
use Rattle.sexpr_rows.proofs.Parts.{binding_constant, binding_head, binding_rest}
use Rattle.sexpr_rows.proofs.binding_part.Goals as goal

pub field-requires : goal.field-requires
unfolding FineRow
field-requires c = (omega arith, record { laid = c.requires.promise.terms_laid; here = c.requires.fine.here; within = omega arith })

pub id-requires : goal.id-requires
id-requires c = binding_constant _ _ c.requires c.field.ensures.is

pub field-requires-else-i-eq-HEAD : goal.field-requires-else-i-eq-HEAD
unfolding FineRow
field-requires-else-i-eq-HEAD c = (omega arith, record { laid = c.requires.promise.terms_laid; here = c.requires.fine.here; within = omega arith })

pub returns-then-i-eq-HEAD : goal.returns-then-i-eq-HEAD
returns-then-i-eq-HEAD c = binding_head _ _ c.if-i-eq-HEAD.true c.field.ensures.is c.id.ensures

pub returns-else-i-eq-HEAD : goal.returns-else-i-eq-HEAD
returns-else-i-eq-HEAD c = binding_rest _ _ _ c.requires c.if-i-eq-HEAD.false c.field-else-i-eq-HEAD.ensures.is

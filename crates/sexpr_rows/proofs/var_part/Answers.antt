use native.Mathlib.Omega.{arith}
use Rattle.solver_expr.specs.Values.{FineRow}
use Rattle.sexpr_rows.proofs.Parts.{var_constant, var_type, var_head, var_rest}
use Rattle.sexpr_rows.proofs.var_part.Goals as goal

pub id-requires : goal.id-requires
id-requires c = var_constant _ _ c.requires

pub field-requires : goal.field-requires
unfolding FineRow
field-requires c = (omega arith, record { laid = c.requires.promise.constants_laid; here = c.requires.fine; within = omega arith })

pub type_to_sexpr-requires : goal.type_to_sexpr-requires
type_to_sexpr-requires c = var_type _ _ c.requires c.field.ensures.is

pub returns-then-i-eq-HEAD : goal.returns-then-i-eq-HEAD
returns-then-i-eq-HEAD c = var_head _ _ c.if-i-eq-HEAD.true c.id.ensures

pub returns-else-i-eq-HEAD : goal.returns-else-i-eq-HEAD
returns-else-i-eq-HEAD c = var_rest _ _ _ c.requires c.if-i-eq-HEAD.false c.field.ensures.is c.type_to_sexpr.ensures

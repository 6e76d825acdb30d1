use native.Mathlib.Omega.{arith}
use Rattle.solver_expr.specs.Values.{FineRow}
use Rattle.sexpr_rows.proofs.Parts.{let_head, let_second, let_body}
use Rattle.sexpr_rows.proofs.let_part.Goals as goal

pub field-requires : goal.field-requires
unfolding FineRow
field-requires c = (omega arith, record { laid = c.requires.promise.terms_laid; here = c.requires.fine.here; within = omega arith })

pub returns-in-0 : goal.returns-in-0
returns-in-0 c = let_head _ _ c.in-0.is c.keyword.ensures

pub returns-in-1 : goal.returns-in-1
returns-in-1 c = let_second _ _ c.requires c.in-1.is

pub returns-in_default : goal.returns-in_default
returns-in_default c = let_body _ _ _ c.requires c.in_default.in_default-own.rest.0.1 c.in_default.in_default-own.rest.1 c.field.ensures.is

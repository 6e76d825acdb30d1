use native.Mathlib.Omega.{arith}
use Rattle.solver_expr.specs.Values.{FineRow}
use Rattle.sexpr_rows.proofs.Parts.{ite_within, ite_head, ite_rest}
use Rattle.sexpr_rows.proofs.ite_part.Goals as goal

pub field-requires : goal.field-requires
unfolding FineRow
field-requires c = (omega arith, record { laid = c.requires.promise.terms_laid; here = c.requires.fine.here; within = ite_within _ _ _ c.requires })

pub returns-then-i-eq-HEAD : goal.returns-then-i-eq-HEAD
returns-then-i-eq-HEAD c = ite_head _ _ c.if-i-eq-HEAD.true c.keyword.ensures

pub returns-else-i-eq-HEAD : goal.returns-else-i-eq-HEAD
returns-else-i-eq-HEAD c = ite_rest _ _ _ c.requires c.if-i-eq-HEAD.false c.field.ensures.is

use native.Mathlib.Omega.{arith}
use Rattle.solver_expr.specs.Values.{FineRow}
use Rattle.sexpr_rows.proofs.Parts.{annotated_head, annotated_body, annotated_word, annotated_listed, annotated_pattern}
use Rattle.sexpr_rows.proofs.annotated_part.Goals as goal

pub returns-then-i-eq-HEAD : goal.returns-then-i-eq-HEAD
returns-then-i-eq-HEAD c = annotated_head _ _ c.if-i-eq-HEAD.true c.keyword.ensures

pub field-requires : goal.field-requires
unfolding FineRow
field-requires c = (omega arith, record { laid = c.requires.promise.terms_laid; here = c.requires.fine.here; within = omega arith })

pub returns-then-i-lt-BODY_PARTS : goal.returns-then-i-lt-BODY_PARTS
returns-then-i-lt-BODY_PARTS c = annotated_body _ _ _ c.requires c.if-i-eq-HEAD.false c.if-i-lt-BODY_PARTS.true c.field.ensures.is

pub returns-then-i-eq0 : goal.returns-then-i-eq0
returns-then-i-eq0 c = annotated_word _ _ _ c.requires c.if-i-lt-BODY_PARTS.false c.if-i-eq0.true c.keyword-then-i-eq0.ensures

pub field-start-requires : goal.field-start-requires
unfolding FineRow
field-start-requires c = (omega arith, record { laid = c.requires.promise.terms_laid; here = c.requires.fine.here; within = omega arith })

pub entry-requires : goal.entry-requires
entry-requires c = annotated_listed _ _ _ c.requires c.if-i-lt-BODY_PARTS.false c.field-start.ensures.is

pub returns : goal.returns
returns c = annotated_pattern _ _ _ c.requires c.if-i-lt-BODY_PARTS.false c.if-i-eq0.false c.field-start.ensures.is c.entry.ensures.is

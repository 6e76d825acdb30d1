use native.Mathlib.Omega.{arith}
use mathlib.Core.Path.{refl, ◌∙◌}
use Rattle.levels.proofs.Steps.{ready_next}
use Rattle.book_test.proofs.TermKinds.{good_literal, good_id, good_built_in, good_application, good_if, good_let, good_quantifier}
use Rattle.walk.proofs.Walks.{term_fewer, terms_fewer, patterns_fewer, operator_fewer, axioms_fewer, type_fewer, variables_fewer, function_fewer, walked_none, walked_literal, walked_id, walked_built_in, walked_application, walked_if, walked_let, walked_quantifier, terms_none, terms_more, patterns_none, patterns_more}
use Rattle.walk.proofs.Axioms.{operator_old, operator_new, axioms_none, axioms_more, axiom_missing, axiom_old, axiom_early, axiom_sent, mark_fewer, sent_axiom}
use Rattle.walk.proofs.cycle.+walk.Goals as goal
use Rattle.walk.proofs.cycle.+walk.Goals.{walk_axiom-else-levels-k-eq0-via-then-levels-k-eq0+else-all_explained, walk_axiom-else-levels-k-eq0-via-else-levels-k-eq0}

pub send_axiom-walk_term-done-requires : goal.send_axiom-walk_term-done-requires
send_axiom-walk_term-done-requires t c = (omega (arith, c.decreases, mark_fewer _ c.requires.0 c.requires.1 c.requires.3 c.mark.ensures, c.requires.2, c.requires.0.promise.terms_laid.few), (ready_next c.requires.0 c.mark.auto.levels, c.requires.2))

pub send_axiom-returns : goal.send_axiom-returns
send_axiom-returns t c = sent_axiom _ c.requires.0 c.requires.1 c.requires.3 c.mark.ensures _ c.well_formed.1.1.1.1.1.1.0.0 (omega (arith, c.well_formed.1.1.1.1.1.0)) c.mark.auto.levels c.nothing-none.ensures c.walk_term-done.ensures c.declared_count-tag.ensures c.assume-at.ensures refl

pub walk_axiom-returns-then-cond-eq-NO_TERM : goal.walk_axiom-returns-then-cond-eq-NO_TERM
walk_axiom-returns-then-cond-eq-NO_TERM t c = axiom_missing _ c.requires.1 c.field-cond.ensures.is _ c.if-cond-eq-NO_TERM.true refl refl (omega (arith, c.well_formed.1.1.1.1.0))

pub walk_axiom-returns-then-all_explained : goal.walk_axiom-returns-then-all_explained
walk_axiom-returns-then-all_explained t c = axiom_sent _ c.requires.1 c.field-cond.ensures.is c.if-cond-eq-NO_TERM.false c.if-levels-k-eq0.true c.all_explained.ensures c.if-all_explained.true c.send_axiom.ensures

pub walk_axiom-returns-else-levels-k-eq0 : goal.walk_axiom-returns-else-levels-k-eq0
walk_axiom-returns-else-levels-k-eq0 t c = elim c.else-levels-k-eq0.branch [
  | walk_axiom-else-levels-k-eq0-via-then-levels-k-eq0+else-all_explained w ↦ axiom_early _ c.requires.1 c.field-cond.ensures.is c.if-cond-eq-NO_TERM.false _ _ _ _ w.if-levels-k-eq0.true w.all_explained.ensures w.if-all_explained.false (omega (arith, c.well_formed.1.1.1.1.0))
  | walk_axiom-else-levels-k-eq0-via-else-levels-k-eq0 w ↦ axiom_old _ c.requires.1 c.field-cond.ensures.is c.if-cond-eq-NO_TERM.false _ _ _ _ w.if-levels-k-eq0.false (omega (arith, c.well_formed.1.1.1.1.0))
]

pub walk_axioms-loop-i-init : goal.walk_axioms-loop-i-init
walk_axioms-loop-i-init t c = (axioms_none _ _ _ _ _ _ (omega (arith, c.well_formed.1.1.1.1.1.0)), refl)

pub walk_axioms-walk_axiom-done-requires : goal.walk_axioms-walk_axiom-done-requires
walk_axioms-walk_axiom-done-requires t c = (omega (arith, c.decreases, axioms_fewer c.requires.0 _ _ c.loop-i.invariant.0), (ready_next c.requires.0 c.loop-i.invariant.1, rw c.field-k.ensures.is (c.requires.1.below c.loop-i.i (omega arith))))

pub walk_axioms-loop-i-preserved : goal.walk_axioms-loop-i-preserved
walk_axioms-loop-i-preserved t c = (axioms_more _ _ _ c.well_formed.1.1.1.1.1.1.0.0 c.loop-i.invariant.0 c.field-k.ensures.is c.walk_axiom-done.ensures, c.walk_axiom-done.auto.levels ∙ c.loop-i.invariant.1)

pub walk_operator-walk_axioms-requires : goal.walk_operator-walk_axioms-requires
walk_operator-walk_axioms-requires t c = (omega (arith, c.decreases, function_fewer c.requires.0 _ c.declare_function-done.ensures), (ready_next c.requires.0 c.declare_function-done.auto.levels, rw (c.field-start.ensures.is, c.field-count.ensures.is) (c.requires.0.promise.function _ c.requires.1).explained_by))

pub walk_operator-returns-then-levels-k-eq0 : goal.walk_operator-returns-then-levels-k-eq0
walk_operator-returns-then-levels-k-eq0 t c = operator_new _ _ c.well_formed.1.1.1.1.1.0.0 c.if-levels-k-eq0.true c.declare_function-done.ensures c.field-start.ensures.is c.field-count.ensures.is c.walk_axioms.ensures

pub walk_operator-returns-else-levels-k-eq0 : goal.walk_operator-returns-else-levels-k-eq0
walk_operator-returns-else-levels-k-eq0 t c = operator_old _ _ _ _ _ _ c.if-levels-k-eq0.false (omega (arith, c.well_formed.1.1.1.1.0))

pub walk_patterns-loop-i-init : goal.walk_patterns-loop-i-init
walk_patterns-loop-i-init t c = (patterns_none _ _ _ _ _ _ _ (omega (arith, c.well_formed.1.1.1.1.1.1.1.0)), refl)

pub walk_patterns-walk_terms-done-requires : goal.walk_patterns-walk_terms-done-requires
walk_patterns-walk_terms-done-requires t c = (omega (arith, c.decreases, patterns_fewer c.requires.0 _ _ c.args.exclude.now.long c.loop-i.invariant.0), (ready_next c.requires.0 c.loop-i.invariant.1, c.requires.1, rw (c.field-first.ensures.is, c.field-many.ensures.is, c.field-p.ensures.is) (c.requires.2.each c.loop-i.i (omega arith)).range))

pub walk_patterns-loop-i-preserved : goal.walk_patterns-loop-i-preserved
walk_patterns-loop-i-preserved t c = (patterns_more _ _ _ c.well_formed.1.1.1.1.1.1.1.1.0.0 c.loop-i.invariant.0 c.field-p.ensures.is c.field-first.ensures.is c.field-many.ensures.is c.walk_terms-done.ensures, c.walk_terms-done.auto.levels ∙ c.loop-i.invariant.1)

pub walk_term-kind_of-requires : goal.walk_term-kind_of-requires
walk_term-kind_of-requires t c = (c.requires.0.promise, c.requires.1)

pub walk_term-declare_literal-requires : goal.walk_term-declare_literal-requires
walk_term-declare_literal-requires t c = (c.requires.0, c.requires.1, good_literal c.requires.0.promise c.requires.1 c.in-CustomLiteral.ensures refl)

pub walk_term-declare_id-requires : goal.walk_term-declare_id-requires
walk_term-declare_id-requires t c = (c.requires.0, rw c.field-v.ensures.is (good_id c.requires.0.promise c.requires.1 c.in-Id.ensures refl))

pub walk_term-walk_terms-requires : goal.walk_term-walk_terms-requires
walk_term-walk_terms-requires t c = (omega (arith, c.decreases), (c.requires.0, c.requires.1, rw (c.field-start.ensures.is, c.field-count.ensures.is) (good_built_in c.requires.0.promise c.requires.1 c.in-BuiltIn.ensures refl).args))

pub walk_term-walk_operator-done-requires : goal.walk_term-walk_operator-done-requires
walk_term-walk_operator-done-requires t c = (omega (arith, c.decreases), (c.requires.0, rw c.field-f.ensures.is (good_application c.requires.0.promise c.requires.1 c.in-Application.ensures refl).function))

pub walk_term-walk_terms-requires-in-Application : goal.walk_term-walk_terms-requires-in-Application
walk_term-walk_terms-requires-in-Application t c = (omega (arith, c.decreases, operator_fewer c.requires.0 _ c.walk_operator-done.ensures), (ready_next c.requires.0 c.walk_operator-done.auto.levels, c.requires.1, rw (c.field-start-in-Application.ensures.is, c.field-count-in-Application.ensures.is) (good_application c.requires.0.promise c.requires.1 c.in-Application.ensures refl).args))

pub walk_term-walk_term-one-requires : goal.walk_term-walk_term-one-requires
walk_term-walk_term-one-requires t c = (omega (arith, c.decreases, c.field-guard.ensures.is, (good_if c.requires.0.promise c.requires.1 c.in-IfThenElse.ensures refl).guard), (c.requires.0, omega (arith, c.field-guard.ensures.is, (good_if c.requires.0.promise c.requires.1 c.in-IfThenElse.ensures refl).guard, c.requires.1)))

pub walk_term-walk_term-two-requires : goal.walk_term-walk_term-two-requires
walk_term-walk_term-two-requires t c = (omega (arith, c.decreases, c.field-thn.ensures.is, (good_if c.requires.0.promise c.requires.1 c.in-IfThenElse.ensures refl).thn, term_fewer c.requires.0 _ c.args.exclude.now.long c.walk_term-one.ensures), (ready_next c.requires.0 c.walk_term-one.auto.levels, omega (arith, c.field-thn.ensures.is, (good_if c.requires.0.promise c.requires.1 c.in-IfThenElse.ensures refl).thn, c.requires.1)))

pub walk_term-walk_term-requires : goal.walk_term-walk_term-requires
walk_term-walk_term-requires t c = (omega (arith, c.decreases, c.field-els.ensures.is, (good_if c.requires.0.promise c.requires.1 c.in-IfThenElse.ensures refl).els, term_fewer c.requires.0 _ c.args.exclude.now.long c.walk_term-one.ensures, term_fewer (ready_next c.requires.0 c.walk_term-one.auto.levels) _ c.args.exclude.now.long c.walk_term-two.ensures), (ready_next c.requires.0 (c.walk_term-two.auto.levels ∙ c.walk_term-one.auto.levels), omega (arith, c.field-els.ensures.is, (good_if c.requires.0.promise c.requires.1 c.in-IfThenElse.ensures refl).els, c.requires.1)))

pub walk_term-declare_type_of-one-requires : goal.walk_term-declare_type_of-one-requires
walk_term-declare_type_of-one-requires t c = (c.requires.0, rw c.field-v-in-LetExpr.ensures.is (good_let c.requires.0.promise c.requires.1 c.in-LetExpr.ensures refl).v)

pub walk_term-walk_term-two-requires-in-LetExpr : goal.walk_term-walk_term-two-requires-in-LetExpr
walk_term-walk_term-two-requires-in-LetExpr t c = (omega (arith, c.decreases, c.field-rhs.ensures.is, (good_let c.requires.0.promise c.requires.1 c.in-LetExpr.ensures refl).rhs, type_fewer c.requires.0 _ c.declare_type_of-one.ensures), (ready_next c.requires.0 c.declare_type_of-one.auto.levels, omega (arith, c.field-rhs.ensures.is, (good_let c.requires.0.promise c.requires.1 c.in-LetExpr.ensures refl).rhs, c.requires.1)))

pub walk_term-with-more-requires : goal.walk_term-with-more-requires
walk_term-with-more-requires t c = omega (arith, c.field-v-in-LetExpr.ensures.is, (good_let c.requires.0.promise c.requires.1 c.in-LetExpr.ensures refl).v, c.requires.0.promise.constants_laid.few)

pub walk_term-walk_term-requires-in-LetExpr : goal.walk_term-walk_term-requires-in-LetExpr
walk_term-walk_term-requires-in-LetExpr t c = (omega (arith, c.decreases, c.field-body.ensures.is, (good_let c.requires.0.promise c.requires.1 c.in-LetExpr.ensures refl).body, type_fewer c.requires.0 _ c.declare_type_of-one.ensures, term_fewer (ready_next c.requires.0 c.declare_type_of-one.auto.levels) _ c.args.exclude.now.long c.walk_term-two-in-LetExpr.ensures), (ready_next c.requires.0 (c.walk_term-two-in-LetExpr.auto.levels ∙ c.declare_type_of-one.auto.levels), omega (arith, c.field-body.ensures.is, (good_let c.requires.0.promise c.requires.1 c.in-LetExpr.ensures refl).body, c.requires.1)))

pub walk_term-declare_variables-one-requires : goal.walk_term-declare_variables-one-requires
walk_term-declare_variables-one-requires t c = (c.requires.0, c.requires.1, (good_quantifier c.requires.0.promise c.requires.1 c.in-QuantifierExpr.ensures refl))

pub walk_term-exclude_variables-more-requires : goal.walk_term-exclude_variables-more-requires
walk_term-exclude_variables-more-requires t c = (c.requires.0.promise, c.requires.1, (good_quantifier c.requires.0.promise c.requires.1 c.in-QuantifierExpr.ensures refl))

pub walk_term-walk_patterns-two-requires : goal.walk_term-walk_patterns-two-requires
walk_term-walk_patterns-two-requires t c = (omega (arith, c.decreases, variables_fewer c.requires.0 _ _ c.declare_variables-one.ensures), (ready_next c.requires.0 c.declare_variables-one.auto.levels, c.requires.1, rw (c.field-start-in-QuantifierExpr.ensures.is, c.field-count-in-QuantifierExpr.ensures.is) (good_quantifier c.requires.0.promise c.requires.1 c.in-QuantifierExpr.ensures refl).patterns))

pub walk_term-walk_term-requires-in-QuantifierExpr : goal.walk_term-walk_term-requires-in-QuantifierExpr
walk_term-walk_term-requires-in-QuantifierExpr t c = (omega (arith, c.decreases, c.field-body-in-QuantifierExpr.ensures.is, (good_quantifier c.requires.0.promise c.requires.1 c.in-QuantifierExpr.ensures refl).body, variables_fewer c.requires.0 _ _ c.declare_variables-one.ensures, patterns_fewer (ready_next c.requires.0 c.declare_variables-one.auto.levels) _ _ c.exclude_variables-more.result.long c.walk_patterns-two.ensures), (ready_next c.requires.0 (c.walk_patterns-two.auto.levels ∙ c.declare_variables-one.auto.levels), omega (arith, c.field-body-in-QuantifierExpr.ensures.is, (good_quantifier c.requires.0.promise c.requires.1 c.in-QuantifierExpr.ensures refl).body, c.requires.1)))

pub walk_term-returns-in-CustomLiteral : goal.walk_term-returns-in-CustomLiteral
walk_term-returns-in-CustomLiteral t c = walked_literal c.requires.0.promise c.requires.1 c.in-CustomLiteral.ensures refl c.declare_literal.ensures

pub walk_term-returns-in-Id : goal.walk_term-returns-in-Id
walk_term-returns-in-Id t c = walked_id c.requires.0.promise c.requires.1 c.in-Id.ensures refl c.field-v.ensures.is c.declare_id.ensures

pub walk_term-returns-in-BuiltIn : goal.walk_term-returns-in-BuiltIn
walk_term-returns-in-BuiltIn t c = walked_built_in c.requires.0.promise c.requires.1 c.in-BuiltIn.ensures refl c.field-start.ensures.is c.field-count.ensures.is c.walk_terms.ensures

pub walk_term-returns-in-Application : goal.walk_term-returns-in-Application
walk_term-returns-in-Application t c = walked_application c.requires.0.promise c.requires.1 c.in-Application.ensures c.well_formed.1.1.1.1.1.1.0.0 refl c.field-f.ensures.is c.field-start-in-Application.ensures.is c.field-count-in-Application.ensures.is c.walk_operator-done.ensures c.walk_terms-in-Application.ensures

pub walk_term-returns-in-IfThenElse : goal.walk_term-returns-in-IfThenElse
walk_term-returns-in-IfThenElse t c = walked_if c.requires.0.promise c.requires.1 c.in-IfThenElse.ensures c.well_formed.1.1.1.1.1.1.0.0 refl c.field-guard.ensures.is c.field-thn.ensures.is c.field-els.ensures.is c.walk_term-one.ensures c.walk_term-two.ensures c.walk_term.ensures

pub walk_term-returns-in-LetExpr : goal.walk_term-returns-in-LetExpr
walk_term-returns-in-LetExpr t c = walked_let c.requires.0.promise c.requires.1 c.in-LetExpr.ensures c.well_formed.1.1.1.1.1.1.0.0 refl c.field-v-in-LetExpr.ensures.is c.field-rhs.ensures.is c.field-body.ensures.is c.declare_type_of-one.ensures c.walk_term-two-in-LetExpr.ensures c.with-more.ensures c.walk_term-in-LetExpr.ensures

pub walk_term-returns-in-Boolean : goal.walk_term-returns-in-Boolean
walk_term-returns-in-Boolean t c = walked_none c.requires.0.promise c.requires.1 c.in-Boolean.ensures (omega arith) _ _ _ _ _ (omega (arith, c.well_formed.1.1.1.1.1.0))

pub walk_term-returns-in-Integer : goal.walk_term-returns-in-Integer
walk_term-returns-in-Integer t c = walked_none c.requires.0.promise c.requires.1 c.in-Integer.ensures (omega arith) _ _ _ _ _ (omega (arith, c.well_formed.1.1.1.1.1.0))

pub walk_term-returns-in-QuantifierExpr : goal.walk_term-returns-in-QuantifierExpr
walk_term-returns-in-QuantifierExpr t c = walked_quantifier c.requires.0.promise c.requires.1 c.in-QuantifierExpr.ensures c.well_formed.1.1.1.1.1.1.0.0 refl c.field-start-in-QuantifierExpr.ensures.is c.field-count-in-QuantifierExpr.ensures.is c.field-body-in-QuantifierExpr.ensures.is c.declare_variables-one.ensures c.exclude_variables-more.ensures c.walk_patterns-two.ensures c.walk_term-in-QuantifierExpr.ensures

pub walk_terms-loop-i-init : goal.walk_terms-loop-i-init
walk_terms-loop-i-init t c = (terms_none _ _ _ _ _ _ _ (omega (arith, c.well_formed.1.1.1.1.1.1.1.0)), refl)

pub walk_terms-walk_term-done-requires : goal.walk_terms-walk_term-done-requires
walk_terms-walk_term-done-requires t c = (omega (arith, c.decreases, c.field-t.ensures.is, c.requires.2.below c.loop-i.i (omega arith), terms_fewer c.requires.0 _ _ c.args.exclude.now.long c.loop-i.invariant.0), (ready_next c.requires.0 c.loop-i.invariant.1, omega (arith, c.field-t.ensures.is, c.requires.2.below c.loop-i.i (omega arith), c.requires.1)))

pub walk_terms-loop-i-preserved : goal.walk_terms-loop-i-preserved
walk_terms-loop-i-preserved t c = (terms_more _ _ _ c.well_formed.1.1.1.1.1.1.1.1.0.0 c.loop-i.invariant.0 c.field-t.ensures.is c.walk_term-done.ensures, c.walk_term-done.auto.levels ∙ c.loop-i.invariant.1)

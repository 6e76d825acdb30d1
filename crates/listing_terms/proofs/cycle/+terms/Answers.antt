use native.Mathlib.Omega.{arith}
use mathlib.Core.Path.{◌≡◌, refl}
use Rattle.basics.proofs.Places.{at_then, at_as, at_length}
use Rattle.records.proofs.Readers.{reads_list, reads_term, reads_pattern, named_constant}
use Rattle.listing_terms.proofs.Lists.{terms_none, terms_more, patterns_none, patterns_more, fewer}
use Rattle.book_test.proofs.TermKinds.{good_literal, good_id, good_if, good_let, good_quantifier}
use Rattle.listing_terms.proofs.Shapes.{applied, good_arguments, of_boolean, of_integer, of_literal, of_id, of_application, of_if, of_let, of_quantifier}
use Rattle.listing_terms.proofs.Fronts.{whole, before, fronted_as, fronted_then, no_arguments, some_arguments, if_is, let_is, quantifier_is, turning_start, turning_falls, turning_more, turning_done}
use Rattle.listing_terms.proofs.cycle.+terms.Goals as goal

pub patterns_to_string-loop-i-init : goal.patterns_to_string-loop-i-init
patterns_to_string-loop-i-init t c = patterns_none _ _ 0 (omega arith)

pub patterns_to_string-overflow_add-start : goal.patterns_to_string-overflow_add-start
patterns_to_string-overflow_add-start t c = omega (arith, c.requires.2.ends, c.requires.0.lists_laid.few)

pub patterns_to_string-field-p-requires : goal.patterns_to_string-field-p-requires
patterns_to_string-field-p-requires t c = reads_list c.requires.0 (omega (arith, c.requires.2.ends))

pub patterns_to_string-field-first-requires : goal.patterns_to_string-field-first-requires
patterns_to_string-field-first-requires t c = reads_pattern c.requires.0 0 (omega arith) (rw c.field-p.ensures.is (c.requires.2.each c.loop-i.i (omega arith)).here)

pub patterns_to_string-field-many-requires : goal.patterns_to_string-field-many-requires
patterns_to_string-field-many-requires t c = reads_pattern c.requires.0 1 (omega arith) (rw c.field-p.ensures.is (c.requires.2.each c.loop-i.i (omega arith)).here)

pub patterns_to_string-rexpr_list_to_string-done-requires : goal.patterns_to_string-rexpr_list_to_string-done-requires
patterns_to_string-rexpr_list_to_string-done-requires t c = (omega (arith, c.decreases), (c.requires.0, c.requires.1, rw (c.field-first.ensures.is, c.field-many.ensures.is, c.field-p.ensures.is) (c.requires.2.each c.loop-i.i (omega arith)).range))

pub patterns_to_string-loop-i-preserved : goal.patterns_to_string-loop-i-preserved
patterns_to_string-loop-i-preserved t c = patterns_more _ _ _ c.well_formed.1.1.1.1.1.0.0 c.loop-i.invariant c.put_at-word.ensures c.field-p.ensures.is c.field-first.ensures.is c.field-many.ensures.is c.rexpr_list_to_string-done.ensures

pub patterns_to_string-returns : goal.patterns_to_string-returns
patterns_to_string-returns t c = let e : c.loop-i.i ≡ c.args.count = omega arith in rw e at c.loop-i.invariant

pub put_arguments-field-start-requires : goal.put_arguments-field-start-requires
put_arguments-field-start-requires t c = reads_term c.requires.0 2 (omega arith) c.requires.1

pub put_arguments-field-count-requires : goal.put_arguments-field-count-requires
put_arguments-field-count-requires t c = reads_term c.requires.0 3 (omega arith) c.requires.1

pub put_arguments-returns-then-count-eq0 : goal.put_arguments-returns-then-count-eq0
put_arguments-returns-then-count-eq0 t c = whole _ _ (at_as (no_arguments _ _ c.field-count.ensures.is c.if-count-eq0.true) c.put_at.ensures)

pub put_arguments-rexpr_list_to_string-before-requires : goal.put_arguments-rexpr_list_to_string-before-requires
put_arguments-rexpr_list_to_string-before-requires t c = (omega (arith, c.decreases), (c.requires.0, c.requires.1, rw c.field-start.ensures.is (fewer (omega (arith, c.field-count.ensures.is)) c.requires.2)))

pub put_arguments-overflow_add-start : goal.put_arguments-overflow_add-start
put_arguments-overflow_add-start t c = omega (arith, c.field-start.ensures.is, c.field-count.ensures.is, c.if-count-eq0.false, c.requires.2.ends, c.requires.0.lists_laid.few)

pub put_arguments-field-requires : goal.put_arguments-field-requires
put_arguments-field-requires t c = reads_list c.requires.0 (omega (arith, c.field-start.ensures.is, c.field-count.ensures.is, c.if-count-eq0.false, c.requires.2.ends))

pub put_arguments-returns : goal.put_arguments-returns
put_arguments-returns t c = let short = c.well_formed.1.1.1.0.0 in before _ _ (some_arguments _ _ c.field-start.ensures.is c.field-count.ensures.is c.if-count-eq0.false c.field.ensures.is) (at_then short (at_then short c.put_at-open.ensures c.rexpr_list_to_string-before.ensures) c.put_lead-n.ensures) (rw (c.field.ensures.is, c.field-start.ensures.is) (c.requires.2.below _ (omega (arith, c.field-count.ensures.is, c.if-count-eq0.false))))

pub put_front-kind_of-requires : goal.put_front-kind_of-requires
put_front-kind_of-requires t c = (c.requires.0, c.requires.1)

pub put_front-put_boolean-requires : goal.put_front-put_boolean-requires
put_front-put_boolean-requires t c = (c.requires.0, c.requires.1)

pub put_front-put_integer-requires : goal.put_front-put_integer-requires
put_front-put_integer-requires t c = (c.requires.0, c.requires.1)

pub put_front-custom_literal_to_string-requires : goal.put_front-custom_literal_to_string-requires
put_front-custom_literal_to_string-requires t c = (c.requires.0, c.requires.1, good_literal c.requires.0 c.requires.1 c.in-CustomLiteral.ensures refl)

pub put_front-field-v-requires : goal.put_front-field-v-requires
put_front-field-v-requires t c = reads_term c.requires.0 1 (omega arith) c.requires.1

pub put_front-named-requires : goal.put_front-named-requires
put_front-named-requires t c = named_constant c.requires.0 (rw c.field-v.ensures.is (good_id c.requires.0 c.requires.1 c.in-Id.ensures refl))

pub put_front-put_if-requires : goal.put_front-put_if-requires
put_front-put_if-requires t c = (omega (arith, c.decreases), (c.requires.0, c.requires.1, good_if c.requires.0 c.requires.1 c.in-IfThenElse.ensures refl))

pub put_front-put_let-requires : goal.put_front-put_let-requires
put_front-put_let-requires t c = (omega (arith, c.decreases), (c.requires.0, c.requires.1, good_let c.requires.0 c.requires.1 c.in-LetExpr.ensures refl))

pub put_front-put_quantifier-requires : goal.put_front-put_quantifier-requires
put_front-put_quantifier-requires t c = (omega (arith, c.decreases), (c.requires.0, c.requires.1, good_quantifier c.requires.0 c.requires.1 c.in-QuantifierExpr.ensures refl))

pub put_front-put_application-requires : goal.put_front-put_application-requires
put_front-put_application-requires t c =
    let n = applied c.in-BuiltIn.is c.kind_of.ensures in
    (omega (arith, c.decreases), (c.requires.0, c.requires.1, n.0, n.1))

pub put_front-returns-in-Boolean : goal.put_front-returns-in-Boolean
put_front-returns-in-Boolean t c = whole _ _ (at_as (of_boolean c.requires.0 c.requires.1 c.in-Boolean.ensures refl) c.put_boolean.ensures)

pub put_front-returns-in-Integer : goal.put_front-returns-in-Integer
put_front-returns-in-Integer t c = whole _ _ (at_as (of_integer c.requires.0 c.requires.1 c.in-Integer.ensures refl) c.put_integer.ensures)

pub put_front-returns-in-CustomLiteral : goal.put_front-returns-in-CustomLiteral
put_front-returns-in-CustomLiteral t c = whole _ _ (at_as (of_literal c.requires.0 c.requires.1 c.in-CustomLiteral.ensures refl) c.custom_literal_to_string.ensures)

pub put_front-returns-in-Id : goal.put_front-returns-in-Id
put_front-returns-in-Id t c = whole _ _ (at_as (of_id c.requires.0 c.requires.1 c.in-Id.ensures refl c.field-v.ensures.is c.named.ensures) c.put_at.ensures)

pub put_front-returns-in-IfThenElse : goal.put_front-returns-in-IfThenElse
put_front-returns-in-IfThenElse t c = fronted_as _ _ _ _ _ _ (of_if c.requires.0 c.requires.1 c.in-IfThenElse.ensures refl) c.put_if.ensures

pub put_front-returns-in-LetExpr : goal.put_front-returns-in-LetExpr
put_front-returns-in-LetExpr t c = fronted_as _ _ _ _ _ _ (of_let c.requires.0 c.requires.1 c.in-LetExpr.ensures refl) c.put_let.ensures

pub put_front-returns-in-QuantifierExpr : goal.put_front-returns-in-QuantifierExpr
put_front-returns-in-QuantifierExpr t c = fronted_as _ _ _ _ _ _ (of_quantifier c.requires.0 c.requires.1 c.in-QuantifierExpr.ensures refl) c.put_quantifier.ensures

pub put_application-operator_to_string-name-requires : goal.put_application-operator_to_string-name-requires
put_application-operator_to_string-name-requires t c = (c.requires.0, c.requires.1, c.requires.2, c.requires.3)

pub put_application-put_arguments-requires : goal.put_application-put_arguments-requires
put_application-put_arguments-requires t c = (omega (arith, c.decreases), (c.requires.0, c.requires.1, good_arguments c.requires.0 c.requires.1 refl c.requires.2 c.requires.3))

pub put_application-returns : goal.put_application-returns
put_application-returns t c = fronted_as _ _ _ _ _ _ (of_application c.requires.0 c.requires.1 refl c.requires.2 c.requires.3) (fronted_then _ _ _ _ _ c.well_formed.1.1.1.0.0 c.operator_to_string-name.ensures c.put_arguments.ensures)

pub put_if-field-requires : goal.put_if-field-requires
put_if-field-requires t c = reads_term c.requires.0 1 (omega arith) c.requires.1

pub put_if-rexpr_to_string-guard-requires : goal.put_if-rexpr_to_string-guard-requires
put_if-rexpr_to_string-guard-requires t c = (omega (arith, c.decreases, c.field.ensures.is, c.requires.2.guard), (c.requires.0, omega (arith, c.field.ensures.is, c.requires.2.guard, c.requires.1)))

pub put_if-field-requires-2 : goal.put_if-field-requires-2
put_if-field-requires-2 t c = reads_term c.requires.0 2 (omega arith) c.requires.1

pub put_if-rexpr_to_string-thn-requires : goal.put_if-rexpr_to_string-thn-requires
put_if-rexpr_to_string-thn-requires t c = (omega (arith, c.decreases, c.field-2.ensures.is, c.requires.2.thn), (c.requires.0, omega (arith, c.field-2.ensures.is, c.requires.2.thn, c.requires.1)))

pub put_if-field-requires-3 : goal.put_if-field-requires-3
put_if-field-requires-3 t c = reads_term c.requires.0 3 (omega arith) c.requires.1

pub put_if-shape_of-out : goal.put_if-shape_of-out
put_if-shape_of-out t c = omega (arith, c.put_at-word.auto, c.rexpr_to_string-guard.auto, c.put_at-space.auto, c.rexpr_to_string-thn.auto, c.put_at-n.auto)

pub put_if-returns : goal.put_if-returns
put_if-returns t c = let short = c.well_formed.1.1.1.0.0 in before _ _ (if_is _ _ c.field.ensures.is c.field-2.ensures.is c.field-3.ensures.is) (at_then short (at_then short (at_then short (at_then short c.put_at-word.ensures c.rexpr_to_string-guard.ensures) c.put_at-space.ensures) c.rexpr_to_string-thn.ensures) c.put_at-n.ensures) (omega (arith, c.field-3.ensures.is, c.requires.2.els))

pub put_let-field-requires : goal.put_let-field-requires
put_let-field-requires t c = reads_term c.requires.0 1 (omega arith) c.requires.1

pub put_let-bound_var_to_string-v-requires : goal.put_let-bound_var_to_string-v-requires
put_let-bound_var_to_string-v-requires t c = (c.requires.0, rw c.field.ensures.is c.requires.2.v)

pub put_let-field-requires-2 : goal.put_let-field-requires-2
put_let-field-requires-2 t c = reads_term c.requires.0 2 (omega arith) c.requires.1

pub put_let-rexpr_to_string-rhs-requires : goal.put_let-rexpr_to_string-rhs-requires
put_let-rexpr_to_string-rhs-requires t c = (omega (arith, c.decreases, c.field-2.ensures.is, c.requires.2.rhs), (c.requires.0, omega (arith, c.field-2.ensures.is, c.requires.2.rhs, c.requires.1)))

pub put_let-field-requires-3 : goal.put_let-field-requires-3
put_let-field-requires-3 t c = reads_term c.requires.0 3 (omega arith) c.requires.1

pub put_let-shape_of-out : goal.put_let-shape_of-out
put_let-shape_of-out t c = omega (arith, c.put_at-word.auto, c.bound_var_to_string-v.auto, c.put_at-is.auto, c.rexpr_to_string-rhs.auto, c.put_at-n.auto)

pub put_let-returns : goal.put_let-returns
put_let-returns t c = let short = c.well_formed.1.1.1.0.0 in before _ _ (let_is _ _ c.field.ensures.is c.field-2.ensures.is c.field-3.ensures.is) (at_then short (at_then short (at_then short (at_then short c.put_at-word.ensures c.bound_var_to_string-v.ensures) c.put_at-is.ensures) c.rexpr_to_string-rhs.ensures) c.put_at-n.ensures) (omega (arith, c.field-3.ensures.is, c.requires.2.body))

pub put_quantifier-put_quantifier_opening-word-requires : goal.put_quantifier-put_quantifier_opening-word-requires
put_quantifier-put_quantifier_opening-word-requires t c = (c.requires.0, c.requires.1)

pub put_quantifier-field-first-requires : goal.put_quantifier-field-first-requires
put_quantifier-field-first-requires t c = reads_term c.requires.0 2 (omega arith) c.requires.1

pub put_quantifier-field-many-requires : goal.put_quantifier-field-many-requires
put_quantifier-field-many-requires t c = reads_term c.requires.0 3 (omega arith) c.requires.1

pub put_quantifier-bound_vars_to_string-vars-requires : goal.put_quantifier-bound_vars_to_string-vars-requires
put_quantifier-bound_vars_to_string-vars-requires t c = (c.requires.0, rw (c.field-first.ensures.is, c.field-many.ensures.is) c.requires.2.vars)

pub put_quantifier-field-start-requires : goal.put_quantifier-field-start-requires
put_quantifier-field-start-requires t c = reads_term c.requires.0 4 (omega arith) c.requires.1

pub put_quantifier-field-count-requires : goal.put_quantifier-field-count-requires
put_quantifier-field-count-requires t c = reads_term c.requires.0 5 (omega arith) c.requires.1

pub put_quantifier-patterns_to_string-patterns-requires : goal.put_quantifier-patterns_to_string-patterns-requires
put_quantifier-patterns_to_string-patterns-requires t c = (omega (arith, c.decreases), (c.requires.0, c.requires.1, rw (c.field-start.ensures.is, c.field-count.ensures.is) c.requires.2.patterns))

pub put_quantifier-field-requires : goal.put_quantifier-field-requires
put_quantifier-field-requires t c = reads_term c.requires.0 6 (omega arith) c.requires.1

pub put_quantifier-shape_of-out : goal.put_quantifier-shape_of-out
put_quantifier-shape_of-out t c = omega (arith, c.put_quantifier_opening-word.auto, c.bound_vars_to_string-vars.auto, c.patterns_to_string-patterns.auto, c.put_at-n.auto)

pub put_quantifier-returns : goal.put_quantifier-returns
put_quantifier-returns t c = let short = c.well_formed.1.1.1.0.0 in before _ _ (quantifier_is _ _ c.field-first.ensures.is c.field-many.ensures.is c.field-start.ensures.is c.field-count.ensures.is c.field.ensures.is) (at_then short (at_then short (at_then short c.put_quantifier_opening-word.ensures c.bound_vars_to_string-vars.ensures) c.patterns_to_string-patterns.ensures) c.put_at-n.ensures) (omega (arith, c.field.ensures.is, c.requires.2.body))

pub rexpr_list_to_string-loop-i-init : goal.rexpr_list_to_string-loop-i-init
rexpr_list_to_string-loop-i-init t c = terms_none _ _ 0 (omega arith)

pub rexpr_list_to_string-overflow_add-start : goal.rexpr_list_to_string-overflow_add-start
rexpr_list_to_string-overflow_add-start t c = omega (arith, c.requires.2.ends, c.requires.0.lists_laid.few)

pub rexpr_list_to_string-field-t-requires : goal.rexpr_list_to_string-field-t-requires
rexpr_list_to_string-field-t-requires t c = reads_list c.requires.0 (omega (arith, c.requires.2.ends))

pub rexpr_list_to_string-rexpr_to_string-done-requires : goal.rexpr_list_to_string-rexpr_to_string-done-requires
rexpr_list_to_string-rexpr_to_string-done-requires t c = let l = c.requires.2.below c.loop-i.i (omega arith) in (omega (arith, c.decreases, c.field-t.ensures.is, l), (c.requires.0, omega (arith, c.field-t.ensures.is, l, c.requires.1)))

pub rexpr_list_to_string-loop-i-preserved : goal.rexpr_list_to_string-loop-i-preserved
rexpr_list_to_string-loop-i-preserved t c = terms_more _ _ _ c.well_formed.1.1.1.1.1.0.0 c.loop-i.invariant c.put_lead-next.ensures c.field-t.ensures.is c.rexpr_to_string-done.ensures

pub rexpr_list_to_string-returns : goal.rexpr_list_to_string-returns
rexpr_list_to_string-returns t c = let e : c.loop-i.i ≡ c.args.count = omega arith in rw e at c.loop-i.invariant

pub rexpr_to_string-loop-n-init : goal.rexpr_to_string-loop-n-init
rexpr_to_string-loop-n-init t c = turning_start (omega arith)

pub rexpr_to_string-put_front-front-requires : goal.rexpr_to_string-put_front-front-requires
rexpr_to_string-put_front-front-requires t c = (omega (arith, c.decreases, c.loop-n.invariant.smaller), (c.requires.0, omega (arith, c.loop-n.invariant.smaller, c.requires.1)))

pub rexpr_to_string-shape_of-out-in-Whole : goal.rexpr_to_string-shape_of-out-in-Whole
rexpr_to_string-shape_of-out-in-Whole t c = at_length (turning_done _ _ c.well_formed.1.1.1.0.0 c.loop-n.invariant c.put_front-front.ensures c.in-Whole.is c.put_closing.ensures)

pub rexpr_to_string-returns-in-Whole : goal.rexpr_to_string-returns-in-Whole
rexpr_to_string-returns-in-Whole t c = turning_done _ _ c.well_formed.1.1.1.0.0 c.loop-n.invariant c.put_front-front.ensures c.in-Whole.is c.put_closing.ensures

pub rexpr_to_string-overflow_add-pending : goal.rexpr_to_string-overflow_add-pending
rexpr_to_string-overflow_add-pending t c = omega (arith, c.loop-n.invariant.smaller, c.requires.1, c.requires.0.terms_laid.few)

pub rexpr_to_string-loop-n-smaller : goal.rexpr_to_string-loop-n-smaller
rexpr_to_string-loop-n-smaller t c = turning_falls _ _ c.well_formed.1.1.1.0.0 c.loop-n.invariant c.put_front-front.ensures c.in-Before.is

pub rexpr_to_string-loop-n-preserved : goal.rexpr_to_string-loop-n-preserved
rexpr_to_string-loop-n-preserved t c = turning_more _ _ c.well_formed.1.1.1.0.0 c.loop-n.invariant c.put_front-front.ensures c.in-Before.is

use native.Mathlib.Omega.{arith}
use mathlib.Core.Path.{sym, ◌∙◌}
use mathlib.Core.Bool.{false≢true}
use borrow.Author.Tests.{eqb-true, eqb-false, not-true, not-false}
use Rattle.walk.proofs.Explaining.{id_excluded, id_declared, id_new}
use Rattle.walk.proofs.leaves.declare_id.Goals as goal
use Rattle.walk.proofs.leaves.declare_id.Goals.{then-has, else-has}

pub returns-then-levels-v-ne0 : goal.returns-then-levels-v-ne0
returns-then-levels-v-ne0 c = elim c.if-has.branch [
  | then-has w ↦ id_excluded _ _ _ _ _ _ c.has.ensures w.if-has.true (omega (arith, c.requires.1, c.requires.0.promise.constants_laid.few)) (omega (arith, c.well_formed.1.1.1.1.1.0))
  | else-has w ↦ id_declared _ _ _ _ _ _ c.has.ensures w.if-has.false (omega (arith, c.requires.1, c.requires.0.promise.constants_laid.few)) (eqb-false _ _ (not-true _ (sym w.value-is ∙ c.if-levels-v-ne0.true))) (omega (arith, c.well_formed.1.1.1.1.1.0))
]

pub returns-else-levels-v-ne0 : goal.returns-else-levels-v-ne0
returns-else-levels-v-ne0 c = elim c.if-has.branch [
  | then-has w ↦ absurd (false≢true (sym c.if-levels-v-ne0.false ∙ w.value-is ∙ w.if-has.true))
  | else-has w ↦ id_new _ _ c.has.ensures w.if-has.false (omega (arith, c.requires.1, c.requires.0.promise.constants_laid.few)) (eqb-true _ _ (not-false _ (sym w.value-is ∙ c.if-levels-v-ne0.false))) c.declare_constant.ensures
]

use mathlib.Core.Path.{sym, ◌∙◌}
use borrow.Author.Tests.{eqb-true, eqb-false}
use Rattle.book_test.proofs.TermKinds.{good_literal}
use Rattle.literals.proofs.Looking.{not_both, undeclared, no_literal, by_name}
use Rattle.literals.proofs.finding.declares_name.Goals as goal
use Rattle.literals.proofs.finding.declares_name.Goals.{then-levels-k-ne0, else-levels-k-ne0}

pub agrees-requires : goal.agrees-requires
agrees-requires c = elim c.if-levels-k-ne0.branch [
  | then-levels-k-ne0 w ↦ (c.requires.0, c.requires.1, good_literal c.requires.0 c.requires.1 w.field.ensures.is (eqb-true _ _ (sym w.value-is ∙ c.if-field.true)), c.requires.2)
  | else-levels-k-ne0 w ↦ absurd (not_both _ w.if-levels-k-ne0.false w.value-is c.if-field.true)
]

pub returns-then-field : goal.returns-then-field
returns-then-field c = elim c.if-levels-k-ne0.branch [
  | then-levels-k-ne0 w ↦ by_name _ _ _ c.args.k w.if-levels-k-ne0.true w.field.ensures.is (eqb-true _ _ (sym w.value-is ∙ c.if-field.true)) c.agrees.ensures
  | else-levels-k-ne0 w ↦ absurd (not_both _ w.if-levels-k-ne0.false w.value-is c.if-field.true)
]

pub returns-else-field : goal.returns-else-field
returns-else-field c = elim c.if-levels-k-ne0.branch [
  | then-levels-k-ne0 w ↦ c.if-field.false ∙ no_literal _ _ _ c.args.k w.field.ensures.is (eqb-false _ _ (sym w.value-is ∙ c.if-field.false))
  | else-levels-k-ne0 w ↦ c.if-field.false ∙ undeclared _ _ _ c.args.k w.if-levels-k-ne0.false
]

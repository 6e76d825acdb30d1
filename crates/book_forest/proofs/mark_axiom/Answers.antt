use Rattle.book_forest.proofs.Marking.{nothing}
use Rattle.book_forest.specs.Forest.{axiom_references}
use borrow.Author.Tests.{eq-eqb, ne_eqb}
use Rattle.book_forest.proofs.mark_axiom.Goals as goal

pub returns-then-term-eq-NO_TERM : goal.returns-then-term-eq-NO_TERM
unfolding axiom_references
returns-then-term-eq-NO_TERM c = rw (← c.field-term.ensures.is, eq-eqb _ _ c.if-term-eq-NO_TERM.true) (nothing _)

pub returns : goal.returns
unfolding axiom_references
returns c = rw (← c.field-term.ensures.is, ne_eqb _ _ c.if-term-eq-NO_TERM.false, ← c.requires.1) c.mark.ensures

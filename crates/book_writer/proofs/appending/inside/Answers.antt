use native.Mathlib.Omega.{arith}
use mathlib.Core.Path.{refl}
use mathlib.Core.Logic.{inl, inr}
use Rattle.book_writer.proofs.Calls.{told_parent, told_term, told_inside}
use Rattle.book_writer.proofs.appending.inside.Goals as goal
use Rattle.book_writer.proofs.appending.inside.Goals.{then-count-parent-via-then-count-parent, then-count-parent-via-else-count-parent+then-count-term}

pub returns-then-count-parent : goal.returns-then-count-parent
returns-then-count-parent c =
    elim c.then-count-parent.branch [
      | then-count-parent-via-then-count-parent w ↦ told_parent _ _ _ c.count.ensures.is w.if-count-parent.true
      | then-count-parent-via-else-count-parent+then-count-term w ↦ told_term _ _ _ w.count-else-count-parent.ensures.is w.if-count-term.true
    ]

pub returns : goal.returns
returns c = told_inside _ _ _ c.count.ensures.is c.count-else-count-parent.ensures.is c.if-count-parent.false c.if-count-term.false

use Rattle.book_forest.proofs.Marking.{after}
use Rattle.book_forest.specs.Forest.{kind_references}
use Rattle.book_forest.proofs.mark_let.Goals as goal

pub returns : goal.returns
unfolding kind_references
returns c = rw (← c.field.ensures.is, ← c.field-2.ensures.is) (after _ _ c.mark.ensures c.mark-2.ensures)

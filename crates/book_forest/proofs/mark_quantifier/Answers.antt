use Rattle.book_forest.proofs.Marking.{after}
use Rattle.book_forest.specs.Forest.{kind_references}
use borrow.Author.Rules.{rules}
use Rattle.book_forest.proofs.mark_quantifier.Goals as goal

pub mark_patterns-requires : goal.mark_patterns-requires
mark_patterns-requires c = (c.requires.0, c.requires.1, rw (c.field.ensures.is, c.field-2.ensures.is) (c.requires.1.quantifier c.args.t c.requires.2 c.requires.3), search rules)

pub returns : goal.returns
unfolding kind_references
returns c = rw (← c.field.ensures.is, ← c.field-2.ensures.is, ← c.field-3.ensures.is) (after _ _ c.mark_patterns.ensures c.mark.ensures)

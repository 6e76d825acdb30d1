use native.Mathlib.Omega.{arith}
use borrow.Author.Rules.{rules}
use Rattle.book_forest.proofs.Children.{application_children, application_ends}
use Rattle.book_forest.proofs.mark_arguments.Goals as goal

pub mark_range-requires : goal.mark_range-requires
mark_range-requires c = (
  c.requires.0.lists_laid,
  omega (arith, c.field.ensures.is, c.field-2.ensures.is, application_ends c.args.book.now c.args.t c.requires.1 c.requires.2 c.requires.3 c.requires.4),
  search rules,
)

pub returns : goal.returns
returns c = rw (← application_children c.args.book.now c.args.t c.requires.3 c.requires.4, ← c.field.ensures.is, ← c.field-2.ensures.is) c.mark_range.ensures

use mathlib.Core.Path.{sym, ◌∙◌}
use Rattle.book_forest.proofs.Marking.{mark_high, mark_again, mark_new}
use borrow.Author.Rules.{rules}
use Rattle.book_forest.proofs.mark.Goals as goal

pub returns-then-bound-t : goal.returns-then-bound-t
returns-then-bound-t c = mark_high _ _ _ c.if-bound-t.true

pub returns-then-is_marked : goal.returns-then-is_marked
returns-then-is_marked c = mark_again _ _ _ c.if-bound-t.false (sym c.is_marked.ensures ∙ c.if-is_marked.true)

pub set_mark-requires : goal.set_mark-requires
set_mark-requires c = (search rules, sym c.is_marked.ensures ∙ c.if-is_marked.false)

pub returns : goal.returns
returns c = mark_new _ _ _ c.if-bound-t.false (sym c.is_marked.ensures ∙ c.if-is_marked.false) c.set_mark.ensures

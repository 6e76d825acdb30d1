use Rattle.book_fields.specs.Fields.{is_range}
use Rattle.book.proofs.Sections.{tabled}
use borrow.Author.Tests.{le-leb, lt-leb}
use native.Mathlib.Omega.{arith}
use Rattle.book_fields.proofs.is_range.Goals as goal

pub overflow_add-i : goal.overflow_add-i
overflow_add-i c = omega (arith, (tabled c.args.section c.requires.1).size, (tabled c.args.section c.requires.1).narrow, c.requires.2.within)

pub returns-then-start-n : goal.returns-then-start-n
unfolding is_range
returns-then-start-n c = rw (← c.field-start.ensures.is, ← c.field-n.ensures.is, ← c.count.ensures.is, le-leb _ _ c.if-start-n.true) c.entries_below.ensures

pub returns-else-start-n : goal.returns-else-start-n
unfolding is_range
returns-else-start-n c = rw (← c.field-start.ensures.is, ← c.field-n.ensures.is, ← c.count.ensures.is, lt-leb _ _ c.if-start-n.false)

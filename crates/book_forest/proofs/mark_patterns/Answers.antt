use Rattle.book_forest.specs.Forest.{pattern_references, listed_references}
use Rattle.book_forest.proofs.Marking.{mark_none, mark_more, mark_stop, mark_done}
use native.Mathlib.Omega.{arith}
use borrow.Author.Rules.{rules}
use Rattle.std.proofs.lemmas.Bool.{not_from_false, not_from_true}
use Rattle.book_forest.proofs.mark_patterns.Goals as goal

pub loop-j-init : goal.loop-j-init
loop-j-init c = mark_none _ _

pub field-requires : goal.field-requires
field-requires c = (omega arith, record { laid = c.requires.0.patterns_laid; here = omega (arith, c.field-p.ensures.is, c.requires.2.known c.loop-j.j (omega arith)); within = omega arith })

pub field-requires-in-loop-j : goal.field-requires-in-loop-j
field-requires-in-loop-j c = (omega arith, record { laid = c.requires.0.patterns_laid; here = omega (arith, c.field-p.ensures.is, c.requires.2.known c.loop-j.j (omega arith)); within = omega arith })

pub mark_range-requires : goal.mark_range-requires
mark_range-requires c = (
  c.requires.0.lists_laid,
  omega (arith, c.field.ensures.is, c.field-in-loop-j.ensures.is, c.requires.1.pattern c.field-p.result (omega (arith, c.field-p.ensures.is, c.requires.2.known c.loop-j.j (omega arith)))),
  search rules,
)

pub returns-then-not-mark_range : goal.returns-then-not-mark_range
unfolding listed_references pattern_references
returns-then-not-mark_range c = mark_stop (listed_references c.args.book.now c.args.bound c.args.start) _ _ c.loop-j.invariant (rw (c.field.ensures.is, c.field-in-loop-j.ensures.is, c.field-p.ensures.is) at c.mark_range.ensures) (not_from_false _ c.if-not-mark_range.true) (omega arith)

pub loop-j-preserved : goal.loop-j-preserved
unfolding listed_references pattern_references
loop-j-preserved c = mark_more (listed_references c.args.book.now c.args.bound c.args.start) _ c.loop-j.invariant (rw (c.field.ensures.is, c.field-in-loop-j.ensures.is, c.field-p.ensures.is) at c.mark_range.ensures) (not_from_true _ c.if-not-mark_range.false)

pub returns : goal.returns
returns c = mark_done _ _ _ c.loop-j.invariant (omega arith)

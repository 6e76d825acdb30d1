use Rattle.book_forest.specs.Marks.{Marked}
use Rattle.book_forest.specs.Forest.{entry_reference}
use Rattle.basics.specs.Lists.{join_below}
use mathlib.Core.Bool.{true}
use Rattle.book_forest.proofs.mark_range.Given as goal

abbrev pub invariant-loop-j : goal.invariant-loop-j
invariant-loop-j l = Marked l.initial.scratch (join_below l.j (entry_reference l.book l.bound l.start)) true l.scratch

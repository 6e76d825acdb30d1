use Rattle.book_forest.specs.Forest.{listed_references}
use Rattle.book_forest.specs.Marks.{Marked}
use Rattle.basics.specs.Lists.{join_below}
use mathlib.Core.Bool.{true}
use Rattle.book_forest.proofs.mark_patterns.Given as goal

abbrev pub invariant-loop-j : goal.invariant-loop-j
invariant-loop-j l = Marked l.initial.scratch (join_below l.j (listed_references l.book l.bound l.start)) true l.scratch

use Rattle.book_forest.specs.Forest.{context_references}
use Rattle.book_forest.specs.Marks.{Marked}
use Rattle.basics.specs.Lists.{join_below}
use mathlib.Core.Bool.{true}
use Rattle.book_forest.proofs.mark_contexts.Given as goal

abbrev pub invariant-loop-i : goal.invariant-loop-i
invariant-loop-i l = Marked l.initial.scratch (join_below l.i (context_references l.book)) true l.scratch

use Rattle.book_forest.specs.Forest.{term_references}
use Rattle.book_forest.specs.Marks.{Marked}
use Rattle.basics.specs.Lists.{join_below}
use mathlib.Core.Bool.{true}
use Rattle.book_forest.proofs.mark_terms.Given as goal

abbrev pub invariant-loop-t : goal.invariant-loop-t
invariant-loop-t l = Marked l.initial.scratch (join_below l.t (term_references l.book)) true l.scratch

use mathlib.Core.Path.{◌≡◌}
use lib.ListN.{length}
use Rattle.book_growth.specs.Parts.{addition_by}
use Rattle.book_growth.proofs.Written.{CountedTo}
use Rattle.book_growth.proofs.grown_counts.Given as goal

abbrev pub invariant-loop-section : goal.invariant-loop-section
invariant-loop-section l = CountedTo l.book (addition_by l.more) l.counts l.section × (length l.counts ≡ 10)

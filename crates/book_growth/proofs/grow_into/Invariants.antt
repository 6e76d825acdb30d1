use mathlib.Core.Path.{◌≡◌}
use lib.ListN.{length}
use Rattle.basics.specs.Write.{WroteAt}
use Rattle.book_growth.specs.Parts.{addition_by}
use Rattle.book_growth.proofs.Written.{BodiesTo}
use Rattle.book_growth.proofs.grow_into.Given as goal

abbrev pub invariant-loop-section : goal.invariant-loop-section
invariant-loop-section l = WroteAt (BodiesTo l.book (addition_by l.more) l.section) 0 l.fn.out l.out l.at × (length l.out ≡ length l.fn.out)

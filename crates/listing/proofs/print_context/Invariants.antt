use Rattle.book.specs.Program.{path}
use Rattle.book.specs.Decode.{program}
use Rattle.listing.proofs.Premises.{Printing}
use Rattle.listing.proofs.print_context.Given as goal

abbrev pub invariant-loop-below : goal.invariant-loop-below
invariant-loop-below l = Printing l.book (path (program l.book) l.node) l.at l.initial.out l.below-iterator.iter.rest.now l.out l.done

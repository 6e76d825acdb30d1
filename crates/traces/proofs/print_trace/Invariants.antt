use Rattle.book.specs.Program.{path}
use Rattle.book.specs.Decode.{program}
use Rattle.traces.proofs.Printing.{Printing}
use Rattle.traces.proofs.print_trace.Given as goal

abbrev pub invariant-loop-below : goal.invariant-loop-below
invariant-loop-below l = Printing l.book (path (program l.book) l.node) l.initial.out l.below-iterator.iter.rest.now l.out l.written

use mathlib.Core.Path.{◌≡◌}
use lib.ListN.{length}
use Rattle.book_layout.proofs.Coded.{Begun}
use Rattle.book_layout.proofs.put_table.Given as goal

abbrev pub invariant-loop-n : goal.invariant-loop-n
invariant-loop-n l = Begun l.counts l.initial.out l.out l.start l.at l.n × (length l.out ≡ length l.initial.out)

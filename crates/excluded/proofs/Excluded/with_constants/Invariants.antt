use Rattle.excluded.specs.Excluded.{Ranged}
use Rattle.excluded.proofs.Excluded.with_constants.Given as goal

abbrev pub invariant-loop-i : goal.invariant-loop-i
invariant-loop-i l = Ranged l.book l.start l.i l.self.bits l.all.bits

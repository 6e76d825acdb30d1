use Prim.Native.Nat.{◌-◌}
use lib.ListN.{length}
use Rattle.script_checks.proofs.Reading.{Upto}
use Rattle.script_checks.proofs.count_checks.Given as goal

abbrev pub invariant-loop-at : goal.invariant-loop-at
invariant-loop-at l = Upto l.script l.at l.met

abbrev pub decreases-loop-at : goal.decreases-loop-at
decreases-loop-at l = length l.script - l.at

use Prim.Native.Nat.{◌-◌}
use lib.ListN.{length}
use Rattle.symbols.proofs.Walking.{Left}
use Rattle.symbols.proofs.words.is_among.Given as goal

abbrev pub invariant-loop-at : goal.invariant-loop-at
invariant-loop-at l = Left l.name l.words l.at

abbrev pub decreases-loop-at : goal.decreases-loop-at
decreases-loop-at l = length l.words - l.at

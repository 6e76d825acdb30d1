use Prim.Native.Nat.{◌+◌}
use Rattle.contexts.proofs.Shared.{Rising}
use Rattle.contexts.proofs.pops.Given as goal

abbrev pub invariant-loop-at : goal.invariant-loop-at
invariant-loop-at l = Rising l.book l.old l.new l.at

abbrev pub decreases-loop-at : goal.decreases-loop-at
decreases-loop-at l = l.at.old + l.at.new

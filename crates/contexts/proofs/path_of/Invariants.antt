use Rattle.contexts.proofs.Climb.{Climbing}
use Rattle.contexts.proofs.path_of.Given as goal

abbrev pub invariant-loop-n : goal.invariant-loop-n
invariant-loop-n l = Climbing l.book l.node l.path.items l.n

abbrev pub decreases-loop-n : goal.decreases-loop-n
decreases-loop-n l = l.n

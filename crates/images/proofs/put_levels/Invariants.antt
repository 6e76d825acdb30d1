use Rattle.images.proofs.LevelLoops.{Put}
use Rattle.images.proofs.put_levels.Given as goal

abbrev pub invariant-loop-i : goal.invariant-loop-i
invariant-loop-i l = Put l.initial.image l.levels l.image l.i

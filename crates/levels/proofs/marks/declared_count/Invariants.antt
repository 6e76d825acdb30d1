use Rattle.levels.proofs.Marking.{Counted}
use Rattle.levels.proofs.marks.declared_count.Given as goal

abbrev pub invariant-loop-level : goal.invariant-loop-level
invariant-loop-level l = Counted l.levels l.level-index l.n

use Rattle.engine.proofs.Descending.{Descending}
use Rattle.engine.proofs.enter.descend.Given as goal

abbrev pub invariant-loop-k : goal.invariant-loop-k
invariant-loop-k l = Descending l.book l.node l.count l.k l.levels l.initial.done l.done l.initial.out l.out

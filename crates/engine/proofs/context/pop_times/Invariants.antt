use lib.ListN.{replicate}
use Rattle.basics.specs.Write.{WroteAt}
use Rattle.smt_engines.specs.Command.{Pop, script}
use Rattle.engine.proofs.context.pop_times.Given as goal

abbrev pub invariant-loop : goal.invariant-loop
invariant-loop l = WroteAt (script (replicate l.counter Pop)) 0 l.initial.out l.out l.at

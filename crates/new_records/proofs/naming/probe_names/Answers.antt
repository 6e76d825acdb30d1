use Rattle.new_records.specs.Naming.{equals}
use Rattle.new_records.proofs.Names.{handed_on, no_trace, some_trace}
use Rattle.new_records.proofs.naming.probe_names.Goals as goal

pub returns-in-Some : goal.returns-in-Some
unfolding equals
returns-in-Some c =
    let first = handed_on _ _ c.then_some-before.ensures in
    let operator = handed_on _ _ c.then_some-before-2.ensures in
    rw c.in-Some.is (some_trace _ _ c.named-probe.ensures (rw first at c.named-equals.ensures) c.in-Some.trace (rw (first, operator) at c.named-trace.ensures))

pub returns-in-None : goal.returns-in-None
unfolding equals
returns-in-None c = rw c.in-None.is (no_trace _ _ c.named-probe.ensures (rw (handed_on _ _ c.then_some-before.ensures) at c.named-equals.ensures))

use Rattle.traces.proofs.Lines.{wrote_no_line, wrote_line, name_here, two_spaces}
use Rattle.basics.proofs.Laws.{wrote_then, wrote_as}
use native.Mathlib.Omega.{arith}
use Rattle.traces.proofs.trace_line.Goals as goal

pub returns-then-trace-eq-NO_TRACE : goal.returns-then-trace-eq-NO_TRACE
returns-then-trace-eq-NO_TRACE c = wrote_no_line _ _ c.requires _ c.field-trace.ensures.is c.if-trace-eq-NO_TRACE.true _

pub name-requires : goal.name-requires
name-requires c = name_here _ _ c.requires _ c.field-trace.ensures.is c.if-trace-eq-NO_TRACE.false

pub returns : goal.returns
returns c = wrote_line _ _ c.requires _ c.field-trace.ensures.is c.if-trace-eq-NO_TRACE.false (wrote_then (omega arith) (wrote_then (omega arith) (two_spaces c.spaces-indented.ensures) c.clip-k.ensures (wrote_as c.name.ensures c.put_all-name.ensures) c.sum-named.ensures) c.clip-k2.ensures c.put-end.ensures c.sum.ensures)

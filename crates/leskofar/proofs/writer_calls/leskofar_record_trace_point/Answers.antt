use mathlib.Core.Path.{ap, ◌∙◌}
use Rattle.leskofar.specs.Exports.{appended}
use Rattle.leskofar.proofs.writer_calls.leskofar_record_trace_point.Goals as goal

pub returns : goal.returns
returns c = record { answer = c.answer.ensures ∙ ap appended c.record_trace_point.ensures.answer; book = c.record_trace_point.ensures.buffer'; scratch = c.record_trace_point.ensures.scratch'' }

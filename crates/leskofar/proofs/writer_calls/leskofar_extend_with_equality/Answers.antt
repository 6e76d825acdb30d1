use mathlib.Core.Path.{ap, ◌∙◌}
use Rattle.leskofar.specs.Exports.{appended}
use Rattle.leskofar.proofs.writer_calls.leskofar_extend_with_equality.Goals as goal

pub returns : goal.returns
returns c = record { answer = c.answer.ensures ∙ ap appended c.extend_with_equality.ensures.answer; book = c.extend_with_equality.ensures.buffer'; scratch = c.extend_with_equality.ensures.scratch'' }

use mathlib.Core.Path.{ap, ◌∙◌}
use Rattle.leskofar.specs.Exports.{appended}
use Rattle.leskofar.proofs.writer_calls.leskofar_append_node.Goals as goal

pub returns : goal.returns
returns c = record { answer = c.answer.ensures ∙ ap appended c.append_node.ensures.answer; book = c.append_node.ensures.buffer'; scratch = c.append_node.ensures.scratch'' }

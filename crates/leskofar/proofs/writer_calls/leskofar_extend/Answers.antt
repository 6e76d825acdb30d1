use mathlib.Core.Path.{ap, ◌∙◌}
use Rattle.leskofar.specs.Exports.{appended}
use Rattle.leskofar.proofs.writer_calls.leskofar_extend.Goals as goal

pub returns : goal.returns
returns c =
    let told = rw c.came.ensures at c.extend.ensures in
    record { answer = c.answer.ensures ∙ ap appended told.answer; book = told.buffer'; scratch = told.scratch'' }

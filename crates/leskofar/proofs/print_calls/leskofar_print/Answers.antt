use mathlib.Core.Path.{ap, ◌∙◌}
use Rattle.leskofar.specs.Exports.{told}
use Rattle.leskofar.proofs.print_calls.leskofar_print.Goals as goal

pub returns : goal.returns
returns c = record { answer = c.tell.ensures ∙ ap told c.print.ensures.answer; text = c.print.ensures.text; scratch = c.print.ensures.scratch }

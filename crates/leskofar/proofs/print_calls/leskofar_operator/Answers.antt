use mathlib.Core.Path.{ap, ◌∙◌}
use Rattle.leskofar.specs.Exports.{told}
use Rattle.leskofar.proofs.print_calls.leskofar_operator.Goals as goal

pub returns : goal.returns
returns c = record { answer = c.tell.ensures ∙ ap told c.operator.ensures.answer; text = c.operator.ensures.text }

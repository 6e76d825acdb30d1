use mathlib.Core.Path.{ap, ◌∙◌}
use Rattle.leskofar.specs.Exports.{told}
use Rattle.leskofar.proofs.print_calls.leskofar_trace.Goals as goal

pub returns : goal.returns
returns c = record { answer = c.tell.ensures ∙ ap told c.trace.ensures.0; text = c.trace.ensures.1; scratch = c.trace.ensures.2 }

use mathlib.Core.Path.{ap, ◌∙◌}
use Rattle.leskofar.specs.Exports.{told}
use Rattle.leskofar.proofs.print_calls.leskofar_listing.Goals as goal

pub returns : goal.returns
returns c = record { answer = c.tell.ensures ∙ ap told c.listing.ensures.0; text = c.listing.ensures.1; scratch = c.listing.ensures.2 }

use mathlib.Core.Path.{ap, ◌∙◌}
use Rattle.leskofar.specs.Exports.{refusal_of}
use Rattle.leskofar.proofs.session_calls.leskofar_narrow.Goals as goal

pub returns : goal.returns
returns c = record { answer = c.refusal.ensures ∙ ap refusal_of c.narrow_image.ensures.answer; image = c.narrow_image.ensures.image''; scratch = c.narrow_image.ensures.scratch'' }

use mathlib.Core.Path.{ap, ◌∙◌}
use Rattle.leskofar.specs.Exports.{refusal_of}
use Rattle.leskofar.proofs.session_calls.leskofar_widen.Goals as goal

pub returns : goal.returns
returns c = record { answer = c.refusal.ensures ∙ ap refusal_of c.widen_image.ensures.answer; image = c.widen_image.ensures.image''; scratch = c.widen_image.ensures.scratch'' }

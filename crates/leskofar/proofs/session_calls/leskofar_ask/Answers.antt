use mathlib.Core.Path.{ap, ◌∙◌}
use Rattle.leskofar.specs.Exports.{answered}
use Rattle.leskofar.proofs.session_calls.leskofar_ask.Goals as goal

pub returns : goal.returns
returns c = record { answer = c.answer.ensures ∙ ap answered c.ask_image.ensures.answer; image = c.ask_image.ensures.image''; text = c.ask_image.ensures.text'; scratch = c.ask_image.ensures.scratch'' }

use mathlib.Core.Path.{ap, ◌∙◌}
use Rattle.leskofar.specs.Exports.{answered}
use Rattle.leskofar.proofs.session_calls.leskofar_move.Goals as goal

pub returns : goal.returns
returns c = record { answer = c.answer.ensures ∙ ap answered c.move_image.ensures.answer; image = c.move_image.ensures.image''; text = c.move_image.ensures.text'; scratch = c.move_image.ensures.scratch'' }

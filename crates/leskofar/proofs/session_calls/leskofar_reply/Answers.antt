use mathlib.Core.Path.{ap, ◌∙◌}
use Rattle.leskofar.specs.Exports.{answered}
use Rattle.leskofar.proofs.session_calls.leskofar_reply.Goals as goal

pub returns : goal.returns
returns c =
    let r = rw (c.checked.ensures.0, c.checked.ensures.1) at c.reply_image.ensures in
    record { answer = c.answer.ensures ∙ ap answered r.answer; image = r.image''; text = r.text'; reason = r.reason'; scratch = r.scratch'' }

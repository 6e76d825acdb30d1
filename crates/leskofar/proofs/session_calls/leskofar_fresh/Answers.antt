use Rattle.std.specs.Prelude.{if◌then◌else◌, Ok, Err}
use mathlib.Core.Path.{◌≡◌, refl, ap, ◌∙◌}
use mathlib.Core.Bool.{Bool, true, false}
use Rattle.book.specs.Refusal.{number}
use Rattle.book.specs.declared.Refusal.TheVariants.{NoSession}
use Rattle.book_test.specs.BookTest.{tested_value}
use Rattle.leskofar.specs.Exports.{refusal_of, fresh_refusal}
use Rattle.leskofar.proofs.session_calls.leskofar_fresh.Goals as goal

told : (fits : Bool) → refusal_of (tested_value (if fits then Ok (tt {0}) else Err NoSession)) ≡ (if fits then 0 else 20)
unfolding refusal_of tested_value number
told true = refl
told false = refl

pub returns : goal.returns
unfolding fresh_refusal
returns c = (c.refusal.ensures ∙ ap (λ r. refusal_of (tested_value r)) c.fresh_image.ensures.fits ∙ told _, c.fresh_image.ensures.left)

use native.Mathlib.Omega.{arith}
use mathlib.Core.Path.{refl}
use mathlib.Core.List.{[]}
use mathlib.Core.Bool.{false}
use Rattle.basics.specs.Write.{overlay_at}
use Rattle.solvers.specs.Session.{text_of, replied}
use Rattle.solvers.proofs.Returned.{text_long, written}
use Rattle.replies.proofs.reply.ask_model.Goals as goal

pub returns-then-text-length : goal.returns-then-text-length
unfolding text_of replied
returns-then-text-length c = text_long _ (replied false c.args.session.now) _ [] c.get_model-length.ensures.counted c.if-text-length.true

pub returns : goal.returns
unfolding text_of replied overlay_at
returns c = written _ (replied false c.args.session.now) _ [] c.get_model-length.ensures.counted c.if-text-length.false (omega (arith, c.well_formed)) c.get_model.ensures.shown refl refl

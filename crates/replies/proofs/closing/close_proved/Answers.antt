use native.Mathlib.Omega.{arith}
use mathlib.Core.Path.{refl}
use mathlib.Core.List.{[]}
use Rattle.basics.specs.Write.{overlay_at}
use Rattle.solvers.specs.Session.{Proved, text_of, closed}
use Rattle.solvers.proofs.Returned.{text_long, proved}
use Rattle.replies.proofs.closing.close_proved.Goals as goal

pub returns-then-text-length : goal.returns-then-text-length
unfolding text_of closed
returns-then-text-length c = text_long _ (closed c.args.session.now Proved) _ [] c.two_pops-length.ensures.counted c.if-text-length.true

pub returns : goal.returns
unfolding text_of closed overlay_at
returns c = proved _ (closed c.args.session.now Proved) _ [] c.two_pops-length.ensures.counted c.if-text-length.false (omega (arith, c.well_formed)) c.two_pops.ensures.shown c.free.ensures refl

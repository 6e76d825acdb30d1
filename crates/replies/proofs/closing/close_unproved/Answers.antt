use native.Mathlib.Omega.{arith}
use mathlib.Core.Path.{refl}
use Rattle.basics.specs.Write.{overlay_at}
use Rattle.solvers.specs.Session.{Unproved, text_of, closed}
use Rattle.solvers.specs.Calls.{reason_of}
use Rattle.solvers.proofs.Returned.{text_long, reason_long, unproved}
use Rattle.replies.proofs.closing.close_unproved.Goals as goal

pub returns-then-text-length : goal.returns-then-text-length
unfolding text_of closed
returns-then-text-length c = text_long _ (closed c.args.session.now (Unproved _)) _ _ c.two_pops-length.ensures.counted c.if-text-length.true

pub returns-then-reason-why : goal.returns-then-reason-why
unfolding text_of closed reason_of
returns-then-reason-why c = reason_long _ (closed c.args.session.now (Unproved _)) _ _ c.two_pops-length.ensures.counted c.if-text-length.false (omega (arith, c.well_formed)) c.put_reason-why.ensures.counted c.if-reason-why.true

pub returns : goal.returns
unfolding text_of closed overlay_at
returns c = unproved _ (closed c.args.session.now (Unproved _)) _ _ c.two_pops-length.ensures.counted c.if-text-length.false (omega (arith, c.well_formed)) c.two_pops.ensures.shown c.free.ensures refl (omega (arith, c.put_reason-why.ensures.counted, c.if-reason-why.false, c.well_formed)) c.if-reason-why.false c.put_reason.ensures.shown

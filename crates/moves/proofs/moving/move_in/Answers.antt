use mathlib.Core.Path.{sym, ◌∙◌}
use native.Mathlib.Omega.{arith}
use borrow.Author.Tests.{not-true, not-false}
use Rattle.moves.proofs.MoveCall.{not_here, not_session, not_free, free}
use Rattle.std.proofs.lemmas.Bool.{not_from_false, not_from_true}
use Rattle.moves.proofs.moving.move_in.Goals as goal

pub returns-then-count-node : goal.returns-then-count-node
returns-then-count-node c = not_here _ _ _ _ (omega (arith, c.count.ensures.is, c.if-count-node.true))

pub returns-then-not-is_session : goal.returns-then-not-is_session
returns-then-not-is_session c = not_session _ _ _ _ (omega (arith, c.count.ensures.is, c.if-count-node.false)) c.is_session.ensures (not-true _ (not_from_false _ c.if-not-is_session.true))

pub move_known-requires : goal.move_known-requires
move_known-requires c = record { promise = c.requires; known = sym c.is_session.ensures ∙ not-false _ (not_from_true _ c.if-not-is_session.false); free = c.in-Nothing.is; here = (omega (arith, c.count.ensures.is, c.if-count-node.false)) }

pub returns-in-Nothing : goal.returns-in-Nothing
returns-in-Nothing c = free _ _ _ _ (omega (arith, c.count.ensures.is, c.if-count-node.false)) c.is_session.ensures (not-false _ (not_from_true _ c.if-not-is_session.false)) c.in-Nothing.is c.move_known.ensures

pub returns-in-Reply : goal.returns-in-Reply
returns-in-Reply c = not_free _ _ _ _ (omega (arith, c.count.ensures.is, c.if-count-node.false)) c.is_session.ensures (not-false _ (not_from_true _ c.if-not-is_session.false)) c.in-Reply.is

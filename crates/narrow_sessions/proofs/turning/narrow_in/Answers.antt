use Rattle.basics.proofs.Bool.{passed, failed}
use Rattle.narrow_sessions.proofs.Behind.{narrow_outside, narrow_deep, narrow_done, is_node, levels_bytes}
use Rattle.std.proofs.lemmas.Bool.{not_from_false, not_from_true}
use Rattle.narrow_sessions.proofs.turning.narrow_in.Goals as goal

pub returns-then-not-is_session : goal.returns-then-not-is_session
returns-then-not-is_session c = narrow_outside _ _ (failed c.is_session.ensures (not_from_false _ c.if-not-is_session.true))

pub is_deep-requires : goal.is_deep-requires
is_deep-requires c = is_node _ c.requires _ (passed c.is_session.ensures (not_from_true _ c.if-not-is_session.false))

pub returns-then-is_deep : goal.returns-then-is_deep
returns-then-is_deep c = narrow_deep _ _ (passed c.is_session.ensures (not_from_true _ c.if-not-is_session.false)) c.is_deep.ensures c.if-is_deep.true

pub narrow_of-requires : goal.narrow_of-requires
narrow_of-requires c = levels_bytes _ c.requires _ (passed c.is_session.ensures (not_from_true _ c.if-not-is_session.false)) c.is_deep.ensures c.if-is_deep.false

pub returns : goal.returns
returns c = narrow_done _ _ (passed c.is_session.ensures (not_from_true _ c.if-not-is_session.false)) c.is_deep.ensures c.if-is_deep.false c.narrow_of.ensures

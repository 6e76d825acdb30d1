use Rattle.basics.proofs.Bool.{passed, failed}
use Rattle.narrow_sessions.proofs.Behind.{widen_outside, widen_deep, widen_done, is_node}
use Rattle.std.proofs.lemmas.Bool.{not_from_false, not_from_true}
use Rattle.narrow_sessions.proofs.turning.widen_in.Goals as goal

pub returns-then-not-is_session : goal.returns-then-not-is_session
returns-then-not-is_session c = widen_outside _ _ c.wide_of-wide.ensures (failed c.is_session.ensures (not_from_false _ c.if-not-is_session.true))

pub is_deep-requires : goal.is_deep-requires
is_deep-requires c = is_node _ c.requires _ (passed c.is_session.ensures (not_from_true _ c.if-not-is_session.false))

pub returns-then-is_deep : goal.returns-then-is_deep
returns-then-is_deep c = widen_deep _ _ c.wide_of-wide.ensures (passed c.is_session.ensures (not_from_true _ c.if-not-is_session.false)) c.is_deep.ensures c.if-is_deep.true

pub returns : goal.returns
returns c = widen_done _ _ c.wide_of-wide.ensures (passed c.is_session.ensures (not_from_true _ c.if-not-is_session.false)) c.is_deep.ensures c.if-is_deep.false

use Rattle.std.proofs.Common.{sym, ◌∙◌}
use Rattle.smt_engines.specs.SmtEngines.{CMD_PUSH}
use Rattle.command_lines.proofs.Slices.{push_line}
use Rattle.live_lines.proofs.Popping.{place_here, place_more, place_none}
use Rattle.live_lines.proofs.last_push.Goals as goal

pub is_line-requires : goal.is_line-requires
unfolding CMD_PUSH
is_line-requires c = push_line

pub returns-then-is_line-clause-place : goal.returns-then-is_line-clause-place
unfolding CMD_PUSH
returns-then-is_line-clause-place c = place_here _ _ c.loop-k-test.true c.from.ensures c.is_line.ensures c.if-is_line.true ∙ sym c.loop-k.invariant

pub loop-k-preserved : goal.loop-k-preserved
unfolding CMD_PUSH
loop-k-preserved c = c.loop-k.invariant ∙ place_more _ _ c.loop-k-test.true c.from.ensures c.is_line.ensures c.if-is_line.false

pub returns-clause-place : goal.returns-clause-place
returns-clause-place c = sym (c.loop-k.invariant ∙ place_none _ _ c.loop-k-test.false)

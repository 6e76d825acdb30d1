use Rattle.std.proofs.Common.{arith}
use Rattle.command_lines.proofs.Cutting.{end_is}
use Rattle.own_levels.proofs.Starts.{walk_none, walk_room, walk_turn, walk_done}
use Rattle.own_levels.proofs.own_starts.Goals as goal

pub loop-at-init : goal.loop-at-init
loop-at-init c = (walk_none _ _ c.requires.0, c.requires.1)

pub join_line-n-requires : goal.join_line-n-requires
join_line-n-requires c = (walk_room c.loop-at.invariant.0 c.requires.0 c.loop-at.invariant.1 c.loop-at-test.true, omega (arith, c.requires.0.short, c.loop-at-test.true))

pub loop-at-preserved : goal.loop-at-preserved
loop-at-preserved c =
    walk_turn c.loop-at.invariant.0 c.requires.0 c.loop-at.invariant.1 c.loop-at-test.true c.join_line-n.ensures.0 c.join_line-n.ensures.1
    (omega (arith, end_is c.args.own.now c.loop-at.at c.line_at.ensures))

pub returns : goal.returns
returns c = walk_done c.loop-at.invariant.0 (omega (arith, c.loop-at-test.false))

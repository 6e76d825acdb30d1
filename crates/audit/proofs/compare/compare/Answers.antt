use Rattle.std.proofs.Common.{◌∙◌, arith}
use lib.ListN.{length-take}
use Rattle.command_lines.proofs.Cutting.{end_is}
use Rattle.audit.proofs.Comparing.{midway_start, midway_done, midway_before, midway_ours, midway_room, midway_step, midway_on, midway_next, midway_stop}
use Rattle.audit.proofs.compare.compare.Goals as goal

pub loop-at-init : goal.loop-at-init
loop-at-init c = (midway_start _ _ _ c.requires _, c.no_starts-starts.ensures)

pub slice_bounds-starts-end : goal.slice_bounds-starts-end
slice_bounds-starts-end c = omega (arith, midway_room _ _ _ c.requires c.loop-at.invariant.0 c.loop-at-test.true c.loop-at.invariant.1)

pub slice_bounds-lines-end : goal.slice_bounds-lines-end
slice_bounds-lines-end c = omega (arith, length-take c.loop-at.n c.loop-at.starts, midway_room _ _ _ c.requires c.loop-at.invariant.0 c.loop-at-test.true c.loop-at.invariant.1)

pub take_line-requires : goal.take_line-requires
take_line-requires c = midway_before _ _ _ c.requires c.loop-at.invariant.0 c.loop-at-test.true

pub returns-in_default : goal.returns-in_default
returns-in_default c = midway_stop _ _ _ c.requires c.loop-at.invariant.0 c.loop-at-test.true (c.take_line.ensures ∙ midway_step _ _ _ c.requires c.loop-at.invariant.0) c.in_default.is

pub hear_line-n-requires : goal.hear_line-n-requires
hear_line-n-requires c = (midway_ours _ _ _ c.requires c.loop-at.invariant.0 c.loop-at-test.true, midway_room _ _ _ c.requires c.loop-at.invariant.0 c.loop-at-test.true c.loop-at.invariant.1, omega (arith, c.requires.taken.short, c.loop-at-test.true))

pub loop-at-preserved : goal.loop-at-preserved
loop-at-preserved c = (
  midway_next _ _ _ c.requires c.loop-at.at (omega (arith, end_is c.args.script.now c.loop-at.at c.line_at.ensures))
      (midway_on _ _ _ c.requires c.loop-at.invariant.0 c.loop-at-test.true c.hear_line-n.ensures (c.take_line.ensures ∙ midway_step _ _ _ c.requires c.loop-at.invariant.0) c.in-Some.is),
  omega (arith, c.hear_line-n.auto, c.loop-at.invariant.1),
)

pub returns : goal.returns
returns c = midway_done _ _ _ c.requires c.loop-at.invariant.0 (omega (arith, c.loop-at-test.false))

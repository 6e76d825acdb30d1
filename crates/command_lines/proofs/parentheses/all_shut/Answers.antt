use Rattle.std.proofs.Common.{refl, arith}
use Rattle.command_lines.specs.CommandLines.{depth_of}
use Rattle.command_lines.proofs.Scanning.{depth_more, scan_more, scan_done}
use Rattle.command_lines.proofs.parentheses.all_shut.Goals as goal

pub loop-c-init : goal.loop-c-init
unfolding depth_of
loop-c-init c = (refl, omega arith)

pub loop-c-preserved : goal.loop-c-preserved
loop-c-preserved c = (scan_more _ _ _ c.loop-c.invariant.0 c.loop-c-test.true c.read_byte-s.ensures, depth_more _ _ _ c.read_byte-s.ensures c.loop-c.invariant.1)

pub returns : goal.returns
returns c = scan_done _ _ c.loop-c.c-index c.loop-c.invariant.0 (omega (arith, c.loop-c-test.false)) c.is_shut.ensures

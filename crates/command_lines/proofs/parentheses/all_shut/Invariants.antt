use Rattle.std.proofs.Common.{◌≤◌}
use Rattle.command_lines.specs.CommandLines.{depth_of}
use Rattle.command_lines.proofs.Scanning.{Scanned}
use Rattle.command_lines.proofs.parentheses.all_shut.Given as goal

abbrev pub invariant-loop-c : goal.invariant-loop-c
invariant-loop-c l = Scanned l.line l.s l.c-index × (depth_of l.s ≤ l.c-index)

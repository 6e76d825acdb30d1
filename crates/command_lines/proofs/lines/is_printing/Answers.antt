use Rattle.std.proofs.Common.{rules}
use Rattle.command_lines.specs.CommandLines.{is_printing}
use Rattle.command_lines.proofs.lines.is_printing.Goals as goal

pub returns-then-c-ge-FIRST_PRINTING : goal.returns-then-c-ge-FIRST_PRINTING
unfolding is_printing
returns-then-c-ge-FIRST_PRINTING c = search rules

pub returns-else-c-ge-FIRST_PRINTING : goal.returns-else-c-ge-FIRST_PRINTING
unfolding is_printing
returns-else-c-ge-FIRST_PRINTING c = search rules

use Rattle.command_lines.proofs.Slices.{line_at_line}
use Rattle.command_lines.proofs.lines.same_line.Goals as goal

pub is_line-requires : goal.is_line-requires
is_line-requires c = line_at_line _ _ c.line_at.ensures

use Rattle.std.proofs.Common.{ap, ◌∙◌}
use Rattle.command_lines.specs.Lines.{line_at}
use Rattle.command_lines.proofs.Slices.{line_at_line}
use Rattle.level_lines.proofs.Counting.{even_by}
use Rattle.level_lines.proofs.counts.is_even.Goals as goal

pub times_in-requires : goal.times_in-requires
times_in-requires c = line_at_line _ _ c.line_at-line.ensures

pub times_in-requires-2 : goal.times_in-requires-2
times_in-requires-2 c = line_at_line _ _ c.line_at-line.ensures

pub returns : goal.returns
returns c = even_by _ _ (c.line_at-line.ensures ∙ ap (line_at c.args.a.text.now) c.from.ensures) c.times_in.ensures c.times_in-2.ensures

use Rattle.std.proofs.Common.{◌∙◌, ap}
use Rattle.command_lines.specs.Lines.{line_of, line_at}
use Rattle.command_lines.proofs.Slices.{front_found, front_whole}
use Rattle.command_lines.proofs.lines.line_at.Goals as goal

pub returns-in-Some : goal.returns-in-Some
unfolding line_at
returns-in-Some c = front_found _ _ c.first_end.ensures c.in-Some.is ∙ ap line_of c.rest-rest.ensures

pub returns-in-None : goal.returns-in-None
unfolding line_at
returns-in-None c = front_whole _ c.first_end.ensures c.in-None.is ∙ ap line_of c.rest-rest.ensures

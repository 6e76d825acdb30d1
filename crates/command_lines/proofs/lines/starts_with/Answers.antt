use Rattle.std.proofs.Common.{◌∙◌}
use Rattle.basics.proofs.Texts.{same_sym}
use Rattle.command_lines.specs.CommandLines.{starts_with}
use Rattle.command_lines.proofs.Slices.{pointwise_same}
use Rattle.command_lines.proofs.lines.starts_with.Goals as goal

pub returns : goal.returns
unfolding starts_with
returns c = c.starts_with.ensures.value ∙ pointwise_same _ _ ∙ same_sym _ _

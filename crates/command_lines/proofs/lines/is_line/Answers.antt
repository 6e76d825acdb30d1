use Rattle.std.proofs.Common.{◌∙◌, ap, arith}
use Rattle.basics.specs.Text.{same}
use Rattle.command_lines.specs.Lines.{line_at, line_of}
use Rattle.command_lines.proofs.Slices.{empty, other_line, line_ends, line_by_byte}
use Rattle.command_lines.proofs.lines.is_line.Goals as goal

pub returns-in-Some-empty : goal.returns-in-Some-empty
unfolding line_at
returns-in-Some-empty c = line_ends _ _ c.in-Some-empty.field-0.now c.requires c.in-Some-empty.ensures.cases.0 c.in-Some-empty.ensures.cases.1 (empty _ (omega (arith, c.in-Some-empty.len_below))) ∙ ap (λ s. same (line_of s) c.args.line.now) c.rest.ensures

pub returns-in-Some-len1-up : goal.returns-in-Some-len1-up
unfolding line_at
returns-in-Some-len1-up c = line_by_byte _ _ c.in-Some-len1-up.field-0.now 0 c.requires c.in-Some-len1-up.ensures.cases.0 c.in-Some-len1-up.ensures.cases.1 (omega (arith, c.in-Some-len1-up.len_at_least)) ∙ ap (λ s. same (line_of s) c.args.line.now) c.rest.ensures

pub returns-in-None : goal.returns-in-None
unfolding line_at
returns-in-None c = other_line _ _ c.in-None.ensures.cases ∙ ap (λ s. same (line_of s) c.args.line.now) c.rest.ensures

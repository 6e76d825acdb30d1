use Rattle.std.proofs.Common.{◌∙◌}
use Rattle.level_lines.proofs.Counting.{often_even, often_uneven}
use Rattle.level_lines.proofs.counts.as_often.Goals as goal

pub returns-then-a-b : goal.returns-then-a-b
returns-then-a-b c = c.all_even.ensures ∙ often_even _ _ _ _ c.if-a-b.true

pub returns-else-a-b : goal.returns-else-a-b
returns-else-a-b c = often_uneven c.args.a.text.now c.args.b.text.now _ _ c.if-a-b.false

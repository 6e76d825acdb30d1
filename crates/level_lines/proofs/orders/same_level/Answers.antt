use Rattle.std.proofs.Common.{◌∙◌}
use Rattle.level_lines.proofs.Ordering.{often_ordered}
use Rattle.level_lines.proofs.orders.same_level.Goals as goal

pub returns-then-in_order : goal.returns-then-in_order
returns-then-in_order c = c.if-in_order.true ∙ often_ordered _ _ c.in_order.ensures c.if-in_order.true

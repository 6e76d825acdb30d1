use Rattle.solver_expr.proofs.Values.{is_tagged, is_literal}
use Rattle.solver_expr.proofs.lowering.literal.Goals as goal

pub returns-then-is_tag : goal.returns-then-is_tag
returns-then-is_tag c = is_tagged _ _ c.field.ensures.is c.is_tag.ensures c.if-is_tag.true

pub returns-else-is_tag : goal.returns-else-is_tag
returns-else-is_tag c = is_literal _ _ c.field.ensures.is c.is_tag.ensures c.if-is_tag.false c.requires.here

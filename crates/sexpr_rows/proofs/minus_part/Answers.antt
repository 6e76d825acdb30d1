use Rattle.sexpr_rows.proofs.Parts.{minus_head, minus_rest}
use Rattle.sexpr_rows.proofs.minus_part.Goals as goal

pub returns-then-i-eq-HEAD : goal.returns-then-i-eq-HEAD
returns-then-i-eq-HEAD c = minus_head _ _ c.if-i-eq-HEAD.true c.keyword.ensures

pub returns-else-i-eq-HEAD : goal.returns-else-i-eq-HEAD
returns-else-i-eq-HEAD c = minus_rest _ _ _ c.requires c.if-i-eq-HEAD.false

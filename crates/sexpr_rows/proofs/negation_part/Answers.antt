use Rattle.sexpr_rows.proofs.Parts.{negation_head, negation_rest}
use Rattle.sexpr_rows.proofs.negation_part.Goals as goal

pub returns-then-i-eq-HEAD : goal.returns-then-i-eq-HEAD
returns-then-i-eq-HEAD c = negation_head _ _ c.if-i-eq-HEAD.true c.keyword.ensures

pub returns-else-i-eq-HEAD : goal.returns-else-i-eq-HEAD
returns-else-i-eq-HEAD c = negation_rest _ _ _ c.requires c.if-i-eq-HEAD.false

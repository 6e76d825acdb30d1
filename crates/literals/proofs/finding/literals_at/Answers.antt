use Rattle.literals.proofs.Looking.{counts, counts_not}
use Rattle.literals.proofs.finding.literals_at.Goals as goal

pub returns-then-field : goal.returns-then-field
returns-then-field c = counts _ _ c.field.ensures.is c.if-field.true

pub returns-else-field : goal.returns-else-field
returns-else-field c = counts_not _ _ c.field.ensures.is c.if-field.false

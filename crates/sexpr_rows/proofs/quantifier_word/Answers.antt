use Rattle.sexpr_rows.proofs.Parts.{word_exists, word_forall}
use Rattle.sexpr_rows.proofs.quantifier_word.Goals as goal

pub returns-then-field-eq0 : goal.returns-then-field-eq0
returns-then-field-eq0 c = word_exists _ _ c.field.ensures.is c.if-field-eq0.true

pub returns-else-field-eq0 : goal.returns-else-field-eq0
returns-else-field-eq0 c = word_forall _ _ c.field.ensures.is c.if-field-eq0.false

use Rattle.basics.specs.Text.{ascii}
use Rattle.listing_terms.specs.Texts.{boolean_text}
use Rattle.basics.proofs.Places.{at_as}
use Rattle.listing_terms.proofs.Words.{flag_unset, flag_set}
use Rattle.listing_terms.proofs.leaves.put_boolean.Goals as goal

pub returns-then-field-eq0 : goal.returns-then-field-eq0
unfolding boolean_text
returns-then-field-eq0 c = at_as (flag_unset _ _ (ascii "true") (ascii "false") c.field.ensures.is c.if-field-eq0.true) c.put_at.ensures

pub returns : goal.returns
unfolding boolean_text
returns c = at_as (flag_set _ _ (ascii "true") (ascii "false") c.field.ensures.is c.if-field-eq0.false) c.put_at-2.ensures

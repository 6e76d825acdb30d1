use Rattle.basics.specs.Text.{ascii}
use Rattle.rsolver.specs.Listing.{quantifier_opening}
use Rattle.listing_terms.specs.Texts.{universal}
use Rattle.basics.proofs.Places.{at_as}
use Rattle.listing_terms.proofs.Words.{flag_unset, flag_set}
use Rattle.listing_terms.proofs.leaves.put_quantifier_opening.Goals as goal

pub returns-then-field-eq0 : goal.returns-then-field-eq0
unfolding quantifier_opening universal
returns-then-field-eq0 c = at_as (flag_unset _ _ (ascii "(forall ") (ascii "(exists ") c.field.ensures.is c.if-field-eq0.true) c.put_at.ensures

pub returns : goal.returns
unfolding quantifier_opening universal
returns c = at_as (flag_set _ _ (ascii "(forall ") (ascii "(exists ") c.field.ensures.is c.if-field-eq0.false) c.put_at-2.ensures

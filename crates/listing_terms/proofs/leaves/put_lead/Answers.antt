use native.Mathlib.Omega.{arith}
use Rattle.basics.proofs.Places.{at_as}
use Rattle.listing_terms.proofs.Words.{no_lead, some_lead}
use Rattle.listing_terms.proofs.leaves.put_lead.Goals as goal

pub returns-then-i-eq0 : goal.returns-then-i-eq0
returns-then-i-eq0 c = no_lead c.if-i-eq0.true (omega arith)

pub returns : goal.returns
returns c = at_as (some_lead _ c.if-i-eq0.false) c.put_at.ensures

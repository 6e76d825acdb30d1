use Rattle.basics.proofs.Places.{at_then, at_as}
use Rattle.book_layout.proofs.put_section.Goals as goal

pub returns : goal.returns
returns c = at_then c.well_formed.1.1.1.1.0.0 (at_as c.body.ensures c.put_at-next.ensures) c.put_at.ensures

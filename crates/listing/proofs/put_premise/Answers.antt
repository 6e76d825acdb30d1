use Rattle.listing.proofs.Lines.{premise_line, premise_here}
use Rattle.listing.proofs.put_premise.Goals as goal

pub put_line-requires : goal.put_line-requires
put_line-requires c = (c.requires.promise, premise_here _ _ c.requires c.field-t.ensures.is)

pub returns : goal.returns
returns c = premise_line _ _ c.requires c.field-t.ensures.is c.put_line.ensures

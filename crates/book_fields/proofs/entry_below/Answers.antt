use Rattle.book_fields.specs.Fields.{entry_below}
use Rattle.book_fields.proofs.entry_below.Goals as goal

pub returns : goal.returns
unfolding entry_below
returns c = cc

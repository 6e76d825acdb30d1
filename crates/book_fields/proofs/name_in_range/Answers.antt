use Rattle.book_fields.specs.Fields.{name_in_range, within}
use Rattle.book_fields.proofs.name_in_range.Goals as goal

pub returns : goal.returns
unfolding name_in_range within
returns c = cc

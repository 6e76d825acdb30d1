use Rattle.book_fields.specs.Fields.{type_in_range, within}
use Rattle.book_fields.proofs.type_in_range.Goals as goal

pub returns : goal.returns
unfolding type_in_range within
returns c = cc

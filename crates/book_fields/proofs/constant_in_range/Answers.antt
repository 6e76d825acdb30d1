use Rattle.book_fields.specs.Fields.{constant_in_range, within}
use Rattle.book_fields.proofs.constant_in_range.Goals as goal

pub returns : goal.returns
unfolding constant_in_range within
returns c = cc

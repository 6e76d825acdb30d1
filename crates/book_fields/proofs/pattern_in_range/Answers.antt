use Rattle.book_fields.specs.Fields.{pattern_in_range, within, type_limit}
use Rattle.book_fields.proofs.pattern_in_range.Goals as goal

pub returns : goal.returns
unfolding pattern_in_range within type_limit
returns c = cc

use Rattle.book_fields.specs.Fields.{letter_in_range, within}
use Rattle.book_fields.proofs.letter_in_range.Goals as goal

pub returns : goal.returns
unfolding letter_in_range within
returns c = cc

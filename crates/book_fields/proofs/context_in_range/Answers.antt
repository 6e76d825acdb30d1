use Rattle.book_fields.specs.Fields.{context_in_range, within}
use Rattle.book_fields.proofs.context_in_range.Goals as goal

pub returns : goal.returns
unfolding context_in_range within
returns c = cc

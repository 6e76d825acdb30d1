use Rattle.book_fields.specs.Fields.{function_in_range, within, type_limit}
use Rattle.book_fields.proofs.function_in_range.Goals as goal

pub returns : goal.returns
unfolding function_in_range within type_limit
returns c = cc

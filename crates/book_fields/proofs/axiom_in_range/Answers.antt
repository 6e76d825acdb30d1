use Rattle.book_fields.specs.Fields.{axiom_in_range, within, type_limit}
use Rattle.book_fields.proofs.axiom_in_range.Goals as goal

pub returns : goal.returns
unfolding axiom_in_range within type_limit
returns c = cc

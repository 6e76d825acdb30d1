use mathlib.Core.Path.{ap, ◌∙◌}
use mathlib.Core.List.{[], ◌∷◌}
use Rattle.basics.specs.Bytes.{row}
use Rattle.new_records.specs.Drafts.{name_row}
use Rattle.new_records.proofs.rows.name_row.Goals as goal

pub returns : goal.returns
unfolding name_row
returns c = c.row.ensures ∙ ap (λ (z : _). row (z ∷ c.args.length ∷ [])) c.range_start.ensures

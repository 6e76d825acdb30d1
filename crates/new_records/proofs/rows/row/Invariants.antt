use Rattle.new_records.proofs.Filled.{Begun}
use Rattle.new_records.proofs.rows.row.Given as goal

abbrev pub invariant-loop-field : goal.invariant-loop-field
invariant-loop-field g l = Begun l.fn.fields l.initial.out l.out l.at l.field-index

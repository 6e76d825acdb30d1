use mathlib.Core.Path.{refl}
use Rattle.new_records.proofs.Filled.{equality_filled}
use Rattle.new_records.proofs.rows.equality.Goals as goal

pub returns : goal.returns
returns c = equality_filled c.args.constant c.args.operator c.args.entries c.row-id.ensures c.row-equal.ensures c.put_at-next.ensures c.put_at.ensures refl

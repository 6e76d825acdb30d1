use native.Mathlib.Omega.{arith}
use mathlib.Core.Path.{◌∙◌}
use Rattle.basics.proofs.Places.{at_as}
use Rattle.new_records.proofs.Parts.{row_one, rows_none}
use Rattle.new_records.proofs.naming.put_name.Goals as goal

pub returns-in-Some : goal.returns-in-Some
returns-in-Some c = rw c.in-Some.is (at_as (c.name_row.ensures ∙ row_one c.args.behind c.in-Some.text.now) c.put_at.ensures)

pub returns-in-None : goal.returns-in-None
returns-in-None c = rw c.in-None.is (rows_none _ (omega arith))

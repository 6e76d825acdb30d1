use mathlib.Core.Path.{◌∙◌}
use Rattle.new_records.proofs.Names.{stands_one, stands_none}
use Rattle.new_records.proofs.naming.stands.Goals as goal

pub returns-in-Some : goal.returns-in-Some
returns-in-Some c = rw c.in-Some.is (c.same.ensures ∙ stands_one c.args.text.now c.in-Some.name.now)

pub returns-in-None : goal.returns-in-None
returns-in-None c = rw c.in-None.is (stands_none c.args.text.now)

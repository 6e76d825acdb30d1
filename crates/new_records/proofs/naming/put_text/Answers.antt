use native.Mathlib.Omega.{arith}
use Rattle.basics.proofs.Places.{at_as}
use Rattle.new_records.proofs.Parts.{letters_one, letters_none}
use Rattle.new_records.proofs.naming.put_text.Goals as goal

pub returns-in-Some : goal.returns-in-Some
returns-in-Some c = rw c.in-Some.is (at_as (letters_one c.in-Some.text.now) c.put_at.ensures)

pub returns-in-None : goal.returns-in-None
returns-in-None c = rw c.in-None.is (letters_none (omega arith))

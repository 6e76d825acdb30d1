use Rattle.new_records.proofs.Names.{named_found, named_behind}
use Rattle.new_records.proofs.naming.named.Goals as goal

pub returns-in-Some : goal.returns-in-Some
returns-in-Some c = named_found _ _ _ (rw c.in-Some.is at c.find_name.ensures)

pub returns-in-None : goal.returns-in-None
returns-in-None c = named_behind _ _ _ (rw c.in-None.is at c.find_name.ensures) (rw c.count.ensures.is at c.new_name.ensures)

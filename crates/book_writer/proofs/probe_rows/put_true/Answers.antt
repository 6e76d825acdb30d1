use Rattle.book_writer.proofs.Fields.{true_none, true_some}
use Rattle.book_writer.proofs.probe_rows.put_true.Goals as goal

pub returns-in-Some : goal.returns-in-Some
returns-in-Some c = rw c.in-Some.is (true_none _ _)

pub returns-in-None : goal.returns-in-None
returns-in-None c = rw c.in-None.is (true_some c.row-terms.ensures c.put_at.ensures)

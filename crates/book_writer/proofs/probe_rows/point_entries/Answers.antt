use Rattle.book_writer.proofs.Fields.{entries_point, entries_term}
use Rattle.book_writer.proofs.probe_rows.point_entries.Goals as goal

pub returns-in-Some : goal.returns-in-Some
returns-in-Some c = rw c.in-Some.is (entries_term _ c.in-Some.term c.count-terms.ensures.is c.row.ensures)

pub returns-in-None : goal.returns-in-None
returns-in-None c = rw c.in-None.is (entries_point _ c.count-terms.ensures.is c.row-in-None.ensures)

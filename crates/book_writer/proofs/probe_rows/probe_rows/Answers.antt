use Rattle.book_writer.proofs.Fields.{rows_done}
use Rattle.book_writer.proofs.probe_rows.probe_rows.Goals as goal

pub returns : goal.returns
returns c = rows_done _ _ _ _ _ c.row.ensures c.point_terms.ensures c.point_equality-id.ensures.is c.row-2.ensures c.point_entries.ensures

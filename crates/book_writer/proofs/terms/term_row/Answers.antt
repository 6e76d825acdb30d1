use native.Mathlib.Omega.{arith}
use Rattle.new_records.specs.Drafts.{term_row}
use Rattle.book_writer.proofs.Fields.{row_none, row_one, row_two}
use Rattle.book_writer.proofs.terms.term_row.Goals as goal
use Rattle.book_writer.proofs.terms.term_row.Goals.{in-0, in-1, in_default}

pub returns : goal.returns
unfolding term_row
returns c =
    elim c.match-ranges.branch [
      | in-0 w ↦ row_none _ _ _ _ _ w.in-0.is (rw w.a-is at c.row.ensures)
      | in-1 w ↦ row_one _ _ _ _ _ w.in-1.is c.range_start-start.ensures (rw w.a-is at c.row.ensures)
      | in_default w ↦ row_two _ _ _ _ _ (omega arith) (omega arith) c.range_start-start.ensures c.range_start-next.ensures (rw w.a-is at c.row.ensures)
    ]

use Rattle.sexpr_rows.specs.Rows.{dropˢ}
use Rattle.solver_expr.specs.Values.{row_of}
use Rattle.printer.proofs.RowText.{weights, Standing}
use Rattle.printer.proofs.text.+parts_to_string.Given as goal

abbrev pub decreases-parts_to_string : goal.decreases-parts_to_string
decreases-parts_to_string l = weights (row_of l.book.now l.tag l.row)

abbrev pub invariant-loop-turn : goal.invariant-loop-turn
invariant-loop-turn l =
    Standing l.book l.tag l.newlines l.indent l.initial.p l.initial.out l.out l.p l.i l.at l.pending l.n l.turn

abbrev pub decreases-loop-turn : goal.decreases-loop-turn
decreases-loop-turn l =
    weights (dropˢ l.i (row_of l.book l.tag l.p))

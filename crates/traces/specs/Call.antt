-- The call trace behind the book test.
use Rattle.std.specs.Prelude.{ℕ, ltb}
use Rattle.basics.specs.Text.{Text}
use Rattle.basics.specs.Outcome.{Outcome, refuse, ◌>>◌}
use Rattle.book.specs.Book.{Book, contexts, size}
use Rattle.book.specs.Decode.{program}
use Rattle.solver_expr.specs.Print.{fitting}
use Rattle.rsolver.specs.Trace.{print_trace}

-- refusals 7 and 10, and the text
unfoldable pub trace_in : Book → (node room : ℕ) → Outcome Text
trace_in b node room = do
  refuse 7 (ltb (size b contexts) node)
  fitting room (print_trace (program b) node)

-- RSolver.dfy: PrintTrace, and the call that prints a node's trace.
use Rattle.std.specs.Prelude.{ℕ, List, [], ◌∷◌, ◌++◌, ltb, length}
use Rattle.std.proofs.Math.Option.{Option, none, some}
use Rattle.basics.specs.Text.{Text, ascii, newline}
use Rattle.basics.specs.Outcome.{Outcome, refuse, ◌>>◌}
use Rattle.book.specs.Book.{Book, contexts, size}
use Rattle.book.specs.Program.{Program, node_at, path}
use Rattle.book.specs.Decode.{program}
use Rattle.book_test.specs.BookTest.{ready}
use Rattle.solver_expr.specs.Print.{Printed, printed, fitting}

unfoldable pub trace_line : Option Text → Text
trace_line none = []
trace_line (some s) = ascii "  " ++ s ++ (newline ∷ [])

-- of a path, the node first and the root's child last: the parent's trace is printed first
unfoldable pub trace_of : Program → List ℕ → Text
trace_of p [] = []
trace_of p (n ∷ ns) = trace_of p ns ++ trace_line (node_at p n).trace_string

unfoldable pub print_trace : Program → ℕ → Text
print_trace p node = trace_of p (path p node)

-- THE CALL trace
unfoldable pub trace_text : (scratch : ℕ) → Book → (node room : ℕ) → Outcome Text
trace_text scratch b node room = do
  ready scratch b
  refuse 7 (ltb (size b contexts) node)
  fitting room (print_trace (program b) node)

unfoldable pub trace_call : Book → (scratch : List ℕ) → (node : ℕ) → (text : List ℕ) → Printed
trace_call b scratch node text = printed (trace_text (length scratch) b node (length text)) text scratch

-- A term's text, written.
use Prim.Native.Nat.{ℕ, ◌+◌, ◌≤◌, ◌<◌}
use native.Mathlib.Omega.{arith}
use mathlib.Core.Path.{◌≡◌, refl, ap, subst}
use mathlib.Core.List.{List, [], ◌++◌}
use mathlib.Core.Bool.{Bool}
use lib.ListN.{length}
use Rattle.basics.specs.Write.{MOST, Wrote}
use Rattle.book.specs.Book.{Book}
use Rattle.solver_expr.specs.SolverExpr.{SExpr, to_string}
use Rattle.solver_expr.specs.Values.{term_of, Lowered}
use Rattle.solver_expr.specs.declared.SExpr as code
use Rattle.printer.specs.Printing.{WroteIn, expr_text}
use Rattle.printing.specs.Calls.{layout_of, term_text}

pub term_wrote : {b : Book} {t : ℕ} {e : code.SExpr} {newlines : Bool} {indent : ℕ} {o o1 : List ℕ} {r : ℕ} (tag : ℕ) → Lowered b t e → indent < MOST + 1
    → WroteIn newlines indent (expr_text b tag e) o o1 r → Wrote (term_text b t tag newlines indent) o o1 r
unfolding expr_text term_text term_of
term_wrote {b} {t} {e} {newlines} {indent} {o} {o1} {r} tag l small w =
    subst (λ (s : SExpr). Wrote (to_string s (layout_of newlines indent)) o o1 r) (l.is tag)
    (w.wrote (layout_of newlines indent) (record { lines = refl; spaces = omega arith }))

-- What the calls print and operator write.
use Rattle.std.specs.Prelude.{ℕ, Bool, List, [], ◌∷◌, length, get_or}
use Rattle.basics.specs.Text.{Text, ascii}
use Rattle.book.specs.Book.{Book}
use Rattle.book.specs.Decode.{term}
use Rattle.solver_expr.specs.SolverExpr.{SExprPrintConfig, to_string}
use Rattle.solver_expr.specs.Lowering.{to_sexpr}
use Rattle.solver_expr.specs.Operators.{Equiv, operators, operator_to_string}

-- the call's two numbers as a layout
abbrev pub layout_of : Bool → ℕ → SExprPrintConfig
layout_of newlines indent = record { newlines = newlines; indent = indent }

unfoldable pub term_text : Book → (t tag : ℕ) → Bool → ℕ → Text
term_text b t tag newlines indent = to_string (to_sexpr (term b t) tag) (layout_of newlines indent)

-- how many operators there are
abbrev pub operator_count : ℕ
operator_count = length operators

-- the name of the operator whose code is k + 1
unfoldable pub operator_name : ℕ → Text
operator_name k = operator_to_string (get_or operators k Equiv)

-- the names as they stand in the code, from its first code on
unfoldable pub names : List Text
names =
    ascii "=" ∷ ascii "=>" ∷ ascii "and" ∷ ascii "or" ∷ ascii "=" ∷ ascii "<" ∷ ascii "<=" ∷ ascii "+" ∷ ascii "-" ∷ ascii "*" ∷ ascii "div" ∷ ascii "mod" ∷ ascii "not" ∷ ascii "-" ∷ []

-- the one whose code is k + 1
unfoldable pub entry : ℕ → Text
entry k = get_or names k []

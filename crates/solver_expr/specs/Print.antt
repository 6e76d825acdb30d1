-- The calls print and operator: refusals in their order, the text, and what the buffers hold afterwards.
use Rattle.std.specs.Prelude.{ℕ, ◌≡◌, List, leb, ltb, length, Result, Ok, Err}
use Rattle.std.proofs.Math.Option.{Option, none, some}
use Rattle.basics.specs.Text.{Text}
use Rattle.basics.specs.Outcome.{Outcome, refused, accepted, refuse, ◌>>◌, map_outcome}
use Rattle.basics.specs.Buffer.{buffer_after, scratch_after}
use Rattle.book.specs.Refusal.{number}
use Rattle.book.specs.declared.Refusal.{Refusal}
use Rattle.book.specs.Book.{Book, terms, size}
use Rattle.book.specs.Decode.{term}
use Rattle.book_test.specs.BookTest.{ready}
use Rattle.solver_expr.specs.SolverExpr.{SExprPrintConfig, to_string}
use Rattle.solver_expr.specs.Lowering.{to_sexpr}
use Rattle.solver_expr.specs.Operators.{Operator, operator_of, operator_to_string}

-- the number and values of each answer: the text's length
unfoldable pub printed_value : Result ℕ Refusal → Outcome ℕ
printed_value (Ok n) = accepted n
printed_value (Err r) = refused (number r)

-- what a printing call leaves: the text's length, and the buffers
pub record Printed : Type 0 where
  pub answer : Outcome ℕ
  pub text : List ℕ
  pub scratch : List ℕ

abbrev pub itself : Text → Text
itself text = text

unfoldable pub printed : Outcome Text → (text scratch : List ℕ) → Printed
printed o text scratch =
    record { answer = map_outcome length o; text = buffer_after o itself text; scratch = scratch_after scratch }

-- what is answered for an outcome, and left in a text buffer t
pub record Answered (o : Outcome Text) (r : Result ℕ Refusal) (t t' : List ℕ) : Type 0 where
  pub answer : printed_value r ≡ map_outcome length o
  pub text : t' ≡ buffer_after o itself t

-- a text that fills its buffer fits
unfoldable pub fitting : (room : ℕ) → Text → Outcome Text
fitting room text = do
  refuse 10 (ltb room (length text))
  accepted text

-- THE CALL print
unfoldable pub print_text : (scratch : ℕ) → Book → (t tag : ℕ) → SExprPrintConfig → (room : ℕ) → Outcome Text
print_text scratch b t tag config room = do
  ready scratch b
  refuse 7 (leb (size b terms) t)
  fitting room (to_string (to_sexpr (term b t) tag) config)

unfoldable pub print_call : Book → (scratch : List ℕ) → (t tag : ℕ) → SExprPrintConfig → (text : List ℕ) → Printed
print_call b scratch t tag config text = printed (print_text (length scratch) b t tag config (length text)) text scratch

-- THE CALL operator: it takes neither book nor scratch
unfoldable pub operator_text : Option Operator → (room : ℕ) → Outcome Text
operator_text none room = refused 11
operator_text (some op) room = fitting room (operator_to_string op)

pub record OperatorNamed : Type 0 where
  pub answer : Outcome ℕ
  pub text : List ℕ

unfoldable pub operator_call : (code : ℕ) → (text : List ℕ) → OperatorNamed
operator_call code text =
    let o = operator_text (operator_of code) (length text) in
    record { answer = map_outcome length o; text = buffer_after o itself text }

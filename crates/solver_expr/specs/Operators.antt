-- Ast.dfy and RSolver.dfy: Operator without IfThenElse and Neq, and OperatorToString. Codes 1 to 14 follow the match.
use Rattle.std.specs.Prelude.{ℕ, zero, suc, List, [], ◌∷◌, map, get_or}
use Rattle.std.proofs.Math.Option.{Option, none, some}
use Rattle.basics.specs.Text.{Text, ascii}

pub data Operator : Type 0 where
  Equiv LogicalImp LogicalAnd LogicalOr Eq Less AtMost Plus Minus Times Div Mod LogicalNot UnaryMinus : Operator

unfoldable pub operator_to_string : Operator → Text
operator_to_string Equiv = ascii "="
operator_to_string LogicalImp = ascii "=>"
operator_to_string LogicalAnd = ascii "and"
operator_to_string LogicalOr = ascii "or"
operator_to_string Eq = ascii "="
operator_to_string Less = ascii "<"
operator_to_string AtMost = ascii "<="
operator_to_string Plus = ascii "+"
operator_to_string Minus = ascii "-"
operator_to_string Times = ascii "*"
operator_to_string Div = ascii "div"
operator_to_string Mod = ascii "mod"
operator_to_string LogicalNot = ascii "not"
operator_to_string UnaryMinus = ascii "-"

abbrev pub operators : List Operator
operators =
    Equiv ∷ LogicalImp ∷ LogicalAnd ∷ LogicalOr ∷ Eq ∷ Less ∷ AtMost ∷ Plus ∷ Minus ∷ Times ∷ Div ∷ Mod ∷ LogicalNot ∷ UnaryMinus ∷ []

-- the operator of a code, counted from 1
unfoldable pub operator_of : ℕ → Option Operator
operator_of zero = none
operator_of (suc k) = get_or (map some operators) k none

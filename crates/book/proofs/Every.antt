-- What is asked of the constants, operators and literals of an expression, throughout.
use Prim.Native.Nat.{ℕ}
use mathlib.Core.Option.{Option, none, some}
use Rattle.basics.proofs.All.{All}
use Rattle.book.specs.SType.{SConstant}
use Rattle.book.specs.RExpr.{RExpr, RExprs, RPatterns, Literal, ROperator, Boolean, Integer, CustomLiteral, Id, FuncAppl, IfThenElse, LetExpr, QuantifierExpr, []ʳ, ◌∷ʳ◌, []ᵖ, ◌∷ᵖ◌}

pub record Asked : Type 1 where
  pub constant : SConstant → Type 0
  pub operator : ROperator → Type 0
  pub literal : ℕ → Literal → Type 0

abbrev mutual
  pub EveryR : Asked → RExpr → Type 0
  EveryR A (Boolean b) = Unit {0}
  EveryR A (Integer x) = Unit {0}
  EveryR A (CustomLiteral t l) = A.literal t l
  EveryR A (Id v) = A.constant v
  EveryR A (FuncAppl op args) = A.operator op × EveryRs A args
  EveryR A (IfThenElse guard thn els) = EveryR A guard × EveryR A thn × EveryR A els
  EveryR A (LetExpr v rhs body) = A.constant v × EveryR A rhs × EveryR A body
  EveryR A (QuantifierExpr univ vv patterns body) = All A.constant vv × EveryPs A patterns × EveryR A body

  pub EveryRs : Asked → RExprs → Type 0
  EveryRs A []ʳ = Unit {0}
  EveryRs A (e ∷ʳ es) = EveryR A e × EveryRs A es

  pub EveryPs : Asked → RPatterns → Type 0
  EveryPs A []ᵖ = Unit {0}
  EveryPs A (q ∷ᵖ ps) = EveryRs A q × EveryPs A ps

abbrev pub EveryTerm : Asked → Option RExpr → Type 0
EveryTerm A none = Unit {0}
EveryTerm A (some e) = EveryR A e

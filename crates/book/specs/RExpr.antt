-- RSolver.dfy: ROperator, RExpr and RPattern; Ast.dfy: Function, with its one declaration.
use Rattle.std.specs.Prelude.{ℕ, List, Bool, ℤ}
use Rattle.basics.specs.Text.{Text, ascii, same}
use Rattle.book.specs.SType.{SType, SConstant}

-- explained_by holds axiom numbers
pub record Function : Type 0 where
  pub number : ℕ
  pub name : Text
  pub input_types : List SType
  pub typ : SType
  pub explained_by : List ℕ

-- what a CustomLiteral says
pub record Literal : Type 0 where
  pub s : Text
  pub typ : SType

-- the literal that is replaced by a number: its text, whatever its type
unfoldable pub is_tag : Literal → Bool
is_tag l = same l.s (ascii "%tag")

pub data ROperator : Type 0 where
  BuiltInOperator : Text → ROperator
  UserDefinedFunction : Function → ROperator

-- RExprs is seq<RExpr>, and RPatterns is seq<RPattern>
mutual
  pub data RExpr : Type 0 where
    Boolean : Bool → RExpr
    Integer : ℤ → RExpr
    CustomLiteral : ℕ → Literal → RExpr  -- the term's number, where its level is kept
    Id : SConstant → RExpr
    FuncAppl : ROperator → RExprs → RExpr
    IfThenElse : RExpr → RExpr → RExpr → RExpr
    LetExpr : SConstant → RExpr → RExpr → RExpr  -- v, rhs, body
    QuantifierExpr : Bool → List SConstant → RPatterns → RExpr → RExpr  -- univ, vv, patterns, body

  pub data RExprs : Type 0 where
    []ʳ : RExprs
    ◌∷ʳ◌ : RExpr → RExprs → RExprs

  pub data RPatterns : Type 0 where
    []ᵖ : RPatterns
    ◌∷ᵖ◌ : RExprs → RPatterns → RPatterns

infixr 67 ◌∷ʳ◌
infixr 67 ◌∷ᵖ◌

-- SolverExpr.dfy: STypeDecl, SType and SConstant. An object upstream is told by its record's number here.
use Rattle.std.specs.Prelude.{ℕ}
use Rattle.basics.specs.Text.{Text}

pub record STypeDecl : Type 0 where
  pub number : ℕ
  pub name : Text

pub data SType : Type 0 where
  SBool SInt : SType
  SUserType : STypeDecl → SType

-- an SConstant without inputs
pub record SConstant : Type 0 where
  pub number : ℕ
  pub name : Text
  pub typ : SType

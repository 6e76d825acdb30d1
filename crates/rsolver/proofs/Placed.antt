-- What may be asked of every marker that an expression names; and what its number must be for the levels to have a place for it.
use Prim.Native.Nat.{ℕ, ◌<◌}
use native.Mathlib.Omega.{arith}
use mathlib.Core.Path.{◌≡◌}
use mathlib.Core.Option.{none, some}
use lib.ListN.{get_or}
use Rattle.basics.proofs.All.{All}
use Rattle.book.specs.Book.{types, constants, functions, axioms, terms}
use Rattle.book.specs.SType.{SType, SBool, SInt, SUserType, SConstant}
use Rattle.book.specs.RExpr.{Function, Literal, ROperator, BuiltInOperator, UserDefinedFunction}
use Rattle.book.specs.Program.{Program, axiom_at, node_at}
use Rattle.book.proofs.Every.{Asked, EveryR, EveryTerm}
use Rattle.rsolver.specs.Methods.{Marker, type, constant, function, axiom'}
use Rattle.rsolver.specs.LevelState.{place, literal_places}

-- ---- every marker has Q
module _ (Q : Marker → Type 0) where
  abbrev pub TypeHas : SType → Type 0
  TypeHas SBool = Unit {0}
  TypeHas SInt = Unit {0}
  TypeHas (SUserType decl) = Q (type decl.number)

  pub record ConstantHas (v : SConstant) : Type 0 where
    pub own : Q (constant v.number)
    pub typ : TypeHas v.typ

  pub record FunctionHas (func : Function) : Type 0 where
    pub own : Q (function func.number)
    pub input_types : All TypeHas func.input_types
    pub typ : TypeHas func.typ
    pub explained_by : All (λ k. Q (axiom' k)) func.explained_by

  abbrev pub OperatorHas : ROperator → Type 0
  OperatorHas (BuiltInOperator name) = Unit {0}
  OperatorHas (UserDefinedFunction func) = FunctionHas func

  -- the literal stands at its term's number
  pub record LiteralHas (p : Program) (t : ℕ) (l : Literal) : Type 0 where
    pub own : t < terms.most
    pub here : get_or p.literals t none ≡ some l
    pub typ : TypeHas l.typ

  abbrev pub having : Program → Asked
  having p = record { constant = ConstantHas; operator = OperatorHas; literal = LiteralHas p }

  pub record ProgramHas (p : Program) : Type 0 where
    pub axiom_term : (k : ℕ) → EveryTerm (having p) (axiom_at p k).term
    pub explains : (k : ℕ) → All (λ f. Q (function f)) (axiom_at p k).explains
    pub node : (n : ℕ) → EveryR (having p) (node_at p n).expr

-- ---- a marker's number is below its section's largest count
abbrev pub MarkerPlaced : Marker → Type 0
MarkerPlaced (type k) = k < types.most
MarkerPlaced (constant k) = k < constants.most
MarkerPlaced (function k) = k < functions.most
MarkerPlaced (axiom' k) = k < axioms.most

abbrev pub LiteralPlaced : Program → ℕ → Literal → Type 0
LiteralPlaced p t l = LiteralHas MarkerPlaced p t l

abbrev pub placed : Program → Asked
placed p = having MarkerPlaced p

abbrev pub PlacedProgram : Program → Type 0
PlacedProgram p = ProgramHas MarkerPlaced p

-- a placed marker's place is below the literals'
pub place_below : (m : Marker) → MarkerPlaced m → place m < literal_places
unfolding place
place_below (type k) h = omega arith
place_below (constant k) h = omega arith
place_below (function k) h = omega arith
place_below (axiom' k) h = omega arith

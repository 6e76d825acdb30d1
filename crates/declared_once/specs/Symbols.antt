-- The symbols of an expression that a solver must know, what a command declares, and when two symbols have one name for a solver.
use Rattle.std.specs.Prelude.{ℕ, ◌+◌, Bool, true, false, ◌&&◌, List, [], ◌∷◌, ◌++◌, if◌then◌else◌}
use Rattle.std.proofs.Math.Option.{Option, none, some}
use Rattle.basics.specs.Text.{Text, ascii, same}
use Rattle.basics.specs.Lists.{member}
use Rattle.symbols.specs.Symbols.{symbol_text, bare}
use Rattle.book.specs.SType.{STypeDecl, SType, SBool, SInt, SUserType, SConstant}
use Rattle.book.specs.RExpr.{RExpr, RExprs, RPatterns, Function, Literal, is_tag, ROperator, BuiltInOperator, UserDefinedFunction, Boolean, Integer, CustomLiteral, Id, FuncAppl, IfThenElse, LetExpr, QuantifierExpr, []ʳ, ◌∷ʳ◌, []ᵖ, ◌∷ᵖ◌}
use Rattle.solver_expr.specs.SolverExpr.{name_to_string}
use Rattle.solver_expr.specs.Lowering.{literal_name}
use Rattle.smt_engines.specs.Command.{Command, Push, Pop, CheckSat, GetModel, Assume, AssumeNot, DeclareSort, DeclareConstant, DeclareFunction, DeclareLiteral}
use Rattle.rsolver.specs.REngine.{with_constants}

pub data Symbol : Type 0 where
  a_sort : STypeDecl → Symbol
  a_constant : SConstant → Symbol
  a_function : Function → Symbol
  a_literal : Literal → Symbol

-- the user type that a type is, if it is one
unfoldable pub sorts_in : SType → List Symbol
sorts_in SBool = []
sorts_in SInt = []
sorts_in (SUserType decl) = a_sort decl ∷ []

unfoldable pub sorts_of_types : List SType → List Symbol
sorts_of_types [] = []
sorts_of_types (t ∷ ts) = sorts_in t ++ sorts_of_types ts

unfoldable pub sorts_of_variables : List SConstant → List Symbol
sorts_of_variables [] = []
sorts_of_variables (v ∷ vv) = sorts_in v.typ ++ sorts_of_variables vv

-- the user types that a symbol's declaration names
unfoldable pub sorts_of : Symbol → List Symbol
sorts_of (a_sort d) = []
sorts_of (a_constant v) = sorts_in v.typ
sorts_of (a_function f) = sorts_of_types f.input_types ++ sorts_in f.typ
sorts_of (a_literal l) = sorts_in l.typ

-- a symbol with the user types that its declaration names
unfoldable pub with_sorts : Symbol → List Symbol
with_sorts x = x ∷ sorts_of x

unfoldable pub operator_symbols : ROperator → List Symbol
operator_symbols (BuiltInOperator name) = []
operator_symbols (UserDefinedFunction f) = with_sorts (a_function f)

-- Unbound constants, functions and literals but %tag, with their user types, and the user types of quantified variables. A constant is
-- bound in the body of a let, and in the patterns and the body of a quantifier, that lists its number.
unfoldable mutual
  pub symbols_of : RExpr → (bound : List ℕ) → List Symbol
  symbols_of (Boolean b) bound = []
  symbols_of (Integer x) bound = []
  symbols_of (CustomLiteral t l) bound = if is_tag l then [] else with_sorts (a_literal l)
  symbols_of (Id v) bound = if member v.number bound then [] else with_sorts (a_constant v)
  symbols_of (FuncAppl op args) bound = operator_symbols op ++ symbols_of_all args bound
  symbols_of (IfThenElse guard thn els) bound = symbols_of guard bound ++ (symbols_of thn bound ++ symbols_of els bound)
  symbols_of (LetExpr v rhs body) bound = symbols_of rhs bound ++ symbols_of body (v.number ∷ bound)
  symbols_of (QuantifierExpr univ vv patterns body) bound =
      sorts_of_variables vv ++ (symbols_of_patterns patterns (with_constants vv bound) ++ symbols_of body (with_constants vv bound))

  pub symbols_of_all : RExprs → (bound : List ℕ) → List Symbol
  symbols_of_all []ʳ bound = []
  symbols_of_all (e ∷ʳ es) bound = symbols_of e bound ++ symbols_of_all es bound

  pub symbols_of_patterns : RPatterns → (bound : List ℕ) → List Symbol
  symbols_of_patterns []ᵖ bound = []
  symbols_of_patterns (q ∷ᵖ ps) bound = symbols_of_all q bound ++ symbols_of_patterns ps bound

-- the names of the built-in operators of an expression
unfoldable pub operator_names : ROperator → List Text
operator_names (BuiltInOperator name) = name ∷ []
operator_names (UserDefinedFunction f) = []

unfoldable mutual
  pub operators_of : RExpr → List Text
  operators_of (Boolean b) = []
  operators_of (Integer x) = []
  operators_of (CustomLiteral t l) = []
  operators_of (Id v) = []
  operators_of (FuncAppl op args) = operator_names op ++ operators_of_all args
  operators_of (IfThenElse guard thn els) = operators_of guard ++ (operators_of thn ++ operators_of els)
  operators_of (LetExpr v rhs body) = operators_of rhs ++ operators_of body
  operators_of (QuantifierExpr univ vv patterns body) = operators_of_patterns patterns ++ operators_of body

  pub operators_of_all : RExprs → List Text
  operators_of_all []ʳ = []
  operators_of_all (e ∷ʳ es) = operators_of e ++ operators_of_all es

  pub operators_of_patterns : RPatterns → List Text
  operators_of_patterns []ᵖ = []
  operators_of_patterns (q ∷ᵖ ps) = operators_of_all q ++ operators_of_patterns ps

-- ---- WHAT A COMMAND DECLARES OR ASSERTS
unfoldable pub declared_by : Command → Option Symbol
declared_by Push = none
declared_by Pop = none
declared_by CheckSat = none
declared_by GetModel = none
declared_by (Assume e tag) = none
declared_by (AssumeNot e tag) = none
declared_by (DeclareSort d) = some (a_sort d)
declared_by (DeclareConstant v) = some (a_constant v)
declared_by (DeclareFunction f) = some (a_function f)
declared_by (DeclareLiteral l) = some (a_literal l)

unfoldable pub declaration_of : Symbol → Command
declaration_of (a_sort d) = DeclareSort d
declaration_of (a_constant v) = DeclareConstant v
declaration_of (a_function f) = DeclareFunction f
declaration_of (a_literal l) = DeclareLiteral l

unfoldable pub asserted : Command → Option RExpr
asserted Push = none
asserted Pop = none
asserted CheckSat = none
asserted GetModel = none
asserted (Assume e tag) = some e
asserted (AssumeNot e tag) = some e
asserted (DeclareSort d) = none
asserted (DeclareConstant v) = none
asserted (DeclareFunction f) = none
asserted (DeclareLiteral l) = none

-- ---- NAMES
-- what is printed of a symbol where it is declared and where it is used (proofs/Spelled)
unfoldable pub printed_name : Symbol → Text
printed_name (a_sort d) = symbol_text d.name
printed_name (a_constant v) = symbol_text v.name
printed_name (a_function f) = symbol_text f.name
printed_name (a_literal l) = literal_name l

-- bars around the whole of a name are not counted
unfoldable pub plain_name : Symbol → Text
plain_name x = bare (printed_name x)

-- sorts have names of their own; constants, functions and literals share theirs, with the operators
unfoldable pub is_sort : Symbol → Bool
is_sort (a_sort d) = true
is_sort (a_constant v) = false
is_sort (a_function f) = false
is_sort (a_literal l) = false

unfoldable pub same_space : Bool → Bool → Bool
same_space true true = true
same_space true false = false
same_space false true = false
same_space false false = true

unfoldable pub same_name : Symbol → Symbol → Bool
same_name x y = same_space (is_sort x) (is_sort y) && same (plain_name x) (plain_name y)

unfoldable pub named_by : (Symbol → Bool) → Option Symbol → Bool
named_by test none = false
named_by test (some y) = test y

-- the command declares the name of x
unfoldable pub declares_name : Symbol → Command → Bool
declares_name x c = named_by (same_name x) (declared_by c)

-- the symbol has the name of a built-in operator
unfoldable pub named_as : Text → Symbol → Bool
named_as name y = same_space false (is_sort y) && same (bare (name_to_string name)) (plain_name y)

-- the symbol is a user type with the name of a built-in one
unfoldable pub built_in_types : List Text
built_in_types = ascii "Bool" ∷ ascii "Int" ∷ []

unfoldable pub named_type : Text → Symbol → Bool
named_type name y = is_sort y && same name (plain_name y)

unfoldable pub declares_type : Text → Command → Bool
declares_type name c = named_by (named_type name) (declared_by c)

unfoldable pub declares_operator : Text → Command → Bool
declares_operator name c = named_by (named_as name) (declared_by c)

-- ---- COUNTING
unfoldable pub times : {A : Type 0} → (A → Bool) → List A → ℕ
times test [] = 0
times test (x ∷ xs) = (if test x then 1 else 0) + times test xs

pub data Among {A : Type 0} (x : A) : List A → Type 0 where
  here : {xs : List A} → Among x (x ∷ xs)
  there : {y : A} {xs : List A} → Among x xs → Among x (y ∷ xs)

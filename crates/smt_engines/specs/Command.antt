-- What is sent to the solver. A command keeps what it declares or asserts; its text is a function of it.
use Rattle.std.specs.Prelude.{ℕ, List, [], ◌∷◌, ◌++◌}
use Rattle.basics.specs.Text.{Text, newline}
use Rattle.symbols.specs.Symbols.{symbol_text}
use Rattle.book.specs.SType.{SType, STypeDecl, SConstant}
use Rattle.book.specs.RExpr.{RExpr, Function, Literal}
use Rattle.solver_expr.specs.SolverExpr.{SExpr, to_string, flat, type_to_sexpr, types_to_sexpr, negation}
use Rattle.solver_expr.specs.Lowering.{to_sexpr, literal_name}
use Rattle.smt_engines.specs.SmtEngines.{CMD_PUSH, CMD_POP, CMD_CHECK_SAT, CMD_GET_MODEL, Context, Assumption, Declaration, SortDeclaration, context_to_string}

-- SolverEngine's methods with what they are given: Push, Pop, CheckSat, GetModel, Assume, DeclareSort, DeclareFunction
pub data Command : Type 0 where
  Push Pop CheckSat GetModel : Command
  Assume : RExpr → ℕ → Command  -- the number is what %tag prints
  AssumeNot : RExpr → ℕ → Command
  DeclareSort : STypeDecl → Command
  DeclareConstant : SConstant → Command
  DeclareFunction : Function → Command
  DeclareLiteral : Literal → Command

unfoldable pub assumption : SExpr → Context
assumption e = Assumption (to_string e flat)

-- DeclareSymbolByName
unfoldable pub declaration : Text → List SType → SType → Context
declaration name input_types typ = Declaration name (to_string (types_to_sexpr input_types) flat) (to_string (type_to_sexpr typ) flat)

unfoldable pub command_to_string : Command → Text
command_to_string Push = CMD_PUSH
command_to_string Pop = CMD_POP
command_to_string CheckSat = CMD_CHECK_SAT
command_to_string GetModel = CMD_GET_MODEL
command_to_string (Assume e tag) = context_to_string (assumption (to_sexpr e tag))
command_to_string (AssumeNot e tag) = context_to_string (assumption (negation (to_sexpr e tag)))
command_to_string (DeclareSort decl) = context_to_string (SortDeclaration (symbol_text decl.name))
command_to_string (DeclareConstant v) = context_to_string (declaration (symbol_text v.name) [] v.typ)
command_to_string (DeclareFunction func) = context_to_string (declaration (symbol_text func.name) func.input_types func.typ)
command_to_string (DeclareLiteral l) = context_to_string (declaration (literal_name l) [] l.typ)

-- each command is a line
unfoldable pub script : List Command → Text
script [] = []
script (c ∷ cs) = command_to_string c ++ (newline ∷ []) ++ script cs

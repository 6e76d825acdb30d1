-- From a symbol's printed name to the text: it stands in the line of the declaration, and wherever the symbol is used. Of every symbol, used
-- or not; proved in proofs/Spelled.antt: spelled.
use Rattle.std.specs.Prelude.{ℕ, ◌≡◌, Bool, true, false, [], ◌∷◌, ◌++◌, map}
use Rattle.basics.specs.Text.{Text, ascii}
use Rattle.book.specs.SType.{STypeDecl, SBool, SInt, SUserType, SConstant}
use Rattle.book.specs.RExpr.{RExprs, Function, Literal, is_tag, BuiltInOperator, UserDefinedFunction, CustomLiteral, Id, FuncAppl}
use Rattle.solver_expr.specs.SolverExpr.{S, to_string, flat, func_appl, type_to_sexpr}
use Rattle.solver_expr.specs.Lowering.{to_sexpr, to_sexprs}
use Rattle.smt_engines.specs.Command.{command_to_string}
use Rattle.declared_once.specs.Symbols.{Symbol, a_sort, a_constant, a_function, a_literal, declaration_of, printed_name, is_sort, built_in_types}

-- how a declaration's line begins, by the name space
unfoldable pub opening : (sort : Bool) → Text
opening true = ascii "(declare-sort "
opening false = ascii "(declare-fun "

-- a declaration's line: the opening, the name, a space
pub record Line (x : Symbol) : Type 0 where
  pub behind : Text
  pub line : command_to_string (declaration_of x) ≡ opening (is_sort x) ++ printed_name x ++ ascii " " ++ behind

pub record Spelled : Type 0 where
  pub declared : (x : Symbol) → Line x
  pub constant : (v : SConstant) (tag : ℕ) → to_sexpr (Id v) tag ≡ S (printed_name (a_constant v))
  pub function :
      (f : Function) (args : RExprs) (tag : ℕ)
      → to_sexpr (FuncAppl (UserDefinedFunction f) args) tag ≡ func_appl (printed_name (a_function f)) (to_sexprs args tag)
  pub literal : (t : ℕ) (l : Literal) (tag : ℕ) → is_tag l ≡ false → to_sexpr (CustomLiteral t l) tag ≡ S (printed_name (a_literal l))
  pub sort : (d : STypeDecl) → type_to_sexpr (SUserType d) ≡ S (printed_name (a_sort d))
  -- a built-in operator has its name as the book has it; and Bool and Int have theirs
  pub operator :
      (name : Text) (args : RExprs) (tag : ℕ) → to_sexpr (FuncAppl (BuiltInOperator name) args) tag ≡ func_appl name (to_sexprs args tag)
  pub types : map (λ t. to_string (type_to_sexpr t) flat) (SBool ∷ SInt ∷ []) ≡ built_in_types

-- Worked facts of the definitions, by computing: the symbols of expressions, and names that are one for a solver.
use mathlib.Core.Path.{◌≡◌, refl}
use mathlib.Core.Bool.{true, false}
use mathlib.Core.List.{[], ◌∷◌}
use Rattle.basics.specs.Text.{Text, ascii, same}
use Rattle.symbols.proofs.Opened.{opened}
use Rattle.book.specs.SType.{STypeDecl, SInt, SUserType, SConstant}
use Rattle.book.specs.RExpr.{Function, Literal, is_tag, BuiltInOperator, UserDefinedFunction, CustomLiteral, Id, FuncAppl, LetExpr, QuantifierExpr, []ʳ, ◌∷ʳ◌, []ᵖ, ◌∷ᵖ◌}
use Rattle.solver_expr.specs.SolverExpr.{name_to_string, type_to_string}
use Rattle.solver_expr.specs.Lowering.{literal_name}
use Rattle.rsolver.specs.REngine.{with_constants}
use Rattle.declared_once.specs.Symbols.{a_sort, a_constant, a_function, a_literal, sorts_in, sorts_of_types, sorts_of_variables, sorts_of, with_sorts, operator_symbols, symbols_of, operator_names, operators_of, printed_name, plain_name, is_sort, same_space, same_name, named_as, named_type}

T : STypeDecl
T = record { number = 0; name = ascii "T" }

-- x of Int, v of T, f from T to Int, the literal a of T, %tag of T
x : SConstant
x = record { number = 0; name = ascii "x"; typ = SInt }

v : SConstant
v = record { number = 1; name = ascii "v"; typ = SUserType T }

f : Function
f = record { number = 0; name = ascii "f"; input_types = SUserType T ∷ []; typ = SInt; explained_by = [] }

a : Literal
a = record { s = ascii "a"; typ = SUserType T }

tag : Literal
tag = record { s = ascii "%tag"; typ = SUserType T }

unfoldable computed : Unit {0}
unfolding opened same is_tag name_to_string type_to_string literal_name with_constants sorts_in sorts_of_types sorts_of_variables sorts_of with_sorts operator_symbols symbols_of operator_names operators_of printed_name plain_name is_sort same_space same_name named_as named_type T x v f a tag
computed = tt

-- (let ((x x)) x): x is bound in the body, and not on the right side
let_symbols : symbols_of (LetExpr x (Id x) (Id x)) [] ≡ a_constant x ∷ []
unfolding computed
let_symbols = refl

-- (forall ((v T)) (! v :pattern (v x))): v is bound in both, its type is wanted
quantifier_symbols : symbols_of (QuantifierExpr true (v ∷ []) ((Id v ∷ʳ Id x ∷ʳ []ʳ) ∷ᵖ []ᵖ) (Id v)) [] ≡ a_sort T ∷ a_constant x ∷ []
unfolding computed
quantifier_symbols = refl

-- patterns of a quantifier without variables
pattern_symbols : symbols_of (QuantifierExpr false [] ((Id x ∷ʳ []ʳ) ∷ᵖ []ᵖ) (CustomLiteral 0 tag)) [] ≡ a_constant x ∷ []
unfolding computed
pattern_symbols = refl

-- (= (f a) v): the user types come with each
application_symbols :
    symbols_of (FuncAppl (BuiltInOperator (ascii "=")) (FuncAppl (UserDefinedFunction f) (CustomLiteral 0 a ∷ʳ []ʳ) ∷ʳ Id v ∷ʳ []ʳ)) []
    ≡ a_function f ∷ a_sort T ∷ a_literal a ∷ a_sort T ∷ a_constant v ∷ a_sort T ∷ []
unfolding computed
application_symbols = refl

-- ---- names
named : Text → SConstant
named n = record { number = 7; name = n; typ = SInt }

of_int : Text → Literal
of_int s = record { s = s; typ = SInt }

-- bars around the whole are not counted, whoever put them there; types have names of their own
same_names :
    same_name (a_constant (named (ascii "red 40"))) (a_constant (named (ascii "|red 40|")))
    ∷ same_name (a_constant (named (ascii "|a:int|"))) (a_literal (of_int (ascii "a")))
    ∷ same_name (a_constant (named (ascii "a"))) (a_literal (of_int (ascii "a")))
    ∷ same_name (a_constant (named (ascii "T"))) (a_sort T)
    ∷ named_as (ascii "|x|") (a_constant x)
    ∷ named_as [] (a_constant (named (ascii "()")))
    ∷ named_type (ascii "T") (a_sort T)
    ∷ named_type (ascii "x") (a_constant x)
    ∷ []
    ≡ true ∷ true ∷ false ∷ false ∷ true ∷ true ∷ true ∷ false ∷ []
unfolding computed named of_int
same_names = refl

-- Worked corners of the walk and of SetContext, computed on small programs: what document 01 rules out is not what they do.
use Prim.Native.Nat.{ℕ}
use mathlib.Core.Path.{◌≡◌, refl}
use mathlib.Core.List.{List, [], ◌∷◌, ◌++◌, map}
use mathlib.Core.Bool.{Bool, true, false}
use mathlib.Core.Option.{Option, none, some}
use lib.IntN.{pos}
use Rattle.basics.specs.Text.{Text, ascii}
use Rattle.basics.specs.Basics.{int2_string_no_leading_zero, nat2_string, int2_string}
use Rattle.symbols.proofs.Opened.{opened}
use Rattle.book.specs.SType.{SType, SBool, SInt, SUserType, SConstant}
use Rattle.book.specs.RExpr.{RExpr, RExprs, Function, Literal, is_tag, BuiltInOperator, UserDefinedFunction, Boolean, Integer, CustomLiteral, Id, FuncAppl, QuantifierExpr, []ʳ, ◌∷ʳ◌, []ᵖ, ◌∷ᵖ◌}
use Rattle.book.specs.Program.{Program, Axiom, Context, node_at, path_up, path, depth}
use Rattle.solver_expr.specs.SolverExpr.{flat, extra_indent, space, name_to_string, to_string, boolean, integer, id, func_appl, negation, type_to_sexpr, type_to_string, type_list, types_to_sexpr}
use Rattle.solver_expr.specs.Lowering.{operator_name, literal_name, literal_to_string, bound_var_to_sexpr, bound_vars_to_sexpr, annotate, quantifier, to_sexpr}
use Rattle.smt_engines.specs.SmtEngines.{CMD_PUSH, CMD_POP, CMD_CHECK_SAT, CMD_GET_MODEL, context_to_string}
use Rattle.smt_engines.specs.Command.{assumption, declaration, command_to_string}
use Rattle.smt_engines.specs.Reader.{lines}
use Rattle.rsolver.specs.Step.{skip, ◌⨟◌, for, do_unless, unless, do_either, either}
use Rattle.rsolver.specs.Methods.{Methods}
use Rattle.rsolver.specs.SolverState.{SolverState, same_marker, is_in, with', new_solver, pushed, pop_to, popped, told, marked, named, missed, bodies}
use Rattle.rsolver.specs.SolverState as body
use Rattle.rsolver.specs.LevelState.{LevelState, place, literal_place, join_at, forget, count, has_name, name_in, no_levels, fresh, is_top, is_declared_at, push, pop, send, declare_at, miss, levelled}
use Rattle.rsolver.specs.REngine.{with_constants, declare_type, declare_constant, declare_function, declare_literal, assume, assume_not, declare_new_types, declare_type_of, send_axiom, include_axiom, declare_operator, declare_symbols, walk, declare_new_symbols, enter, adjust_context, pop_times, set_context, ask_goal}

everything : Unit {0}
unfolding opened int2_string_no_leading_zero nat2_string int2_string node_at path_up path depth flat extra_indent space name_to_string to_string boolean integer id func_appl negation type_to_sexpr type_to_string type_list types_to_sexpr operator_name is_tag literal_name literal_to_string bound_var_to_sexpr bound_vars_to_sexpr annotate quantifier to_sexpr CMD_PUSH CMD_POP CMD_CHECK_SAT CMD_GET_MODEL context_to_string assumption declaration command_to_string lines skip ◌⨟◌ for do_unless unless do_either either same_marker is_in with' new_solver pushed pop_to popped told marked named missed body.is_top place literal_place join_at forget count has_name name_in no_levels fresh is_top is_declared_at push pop send declare_at miss with_constants declare_type declare_constant declare_function declare_literal assume assume_not declare_new_types declare_type_of send_axiom include_axiom declare_operator declare_symbols walk declare_new_symbols enter adjust_context pop_times set_context ask_goal
everything = tt

z : SConstant
z = record { number = 0; name = ascii "z"; typ = SInt }

-- f is explained by axiom 0, and g by nothing
f : Function
f = record { number = 0; name = ascii "f"; input_types = SInt ∷ []; typ = SInt; explained_by = 0 ∷ [] }

g : Function
g = record { number = 1; name = ascii "g"; input_types = []; typ = SBool; explained_by = [] }

fz : RExpr
fz = FuncAppl (UserDefinedFunction f) (Id z ∷ʳ []ʳ)

literal : ℕ → Text → SType → RExpr
literal t s typ = CustomLiteral t (record { s = s; typ = typ })

both : RExpr → RExpr → RExpr
both a b = FuncAppl (BuiltInOperator (ascii "and")) (a ∷ʳ b ∷ʳ []ʳ)

said : Text → Option Literal
said s = some (record { s = s; typ = SInt })

-- a program with one axiom, some literals and nodes below the root
with_axiom : Option RExpr → List ℕ → Program
with_axiom term explains = record { axioms = record { term = term; explains = explains } ∷ []; literals = []; contexts = [] }

with_literals : List (Option Literal) → Program
with_literals ls = record { axioms = []; literals = ls; contexts = [] }

node : RExpr → Context
node e = record { parent = 0; expr = e; trace_string = none }

with_nodes : List Context → Program
with_nodes cs = record { axioms = []; literals = []; contexts = cs }

-- what a walk at a node of its own sends, and whether an axiom was missed
walked : Program → RExpr → List Text
walked p e = lines (declare_new_symbols (levelled p) p e (push 1 fresh)).sent

misses : Program → RExpr → Bool
misses p e = (declare_new_symbols (levelled p) p e (push 1 fresh)).missing

-- a move and then another
moves : Program → ℕ → ℕ → List Text
moves p a b = lines (set_context (levelled p) p b (set_context (levelled p) p a fresh)).sent

texts : List (List Text × List Text)
texts =
    -- nothing is excluded in an axiom: z is bound around (f z), and free in the axiom, which declares it
    (
      walked (with_axiom (some (both (Id z) (Id z))) []) (QuantifierExpr true (z ∷ []) []ᵖ fz),
      ascii "(push 1)" ∷ ascii "(declare-fun f (Int) Int)" ∷ ascii "(declare-fun z () Int)" ∷ ascii "(assert (and z z))" ∷ [],
    )
    -- an axiom that explains g too is not sent for f alone
    ∷ (
      walked (with_axiom (some (Id z)) (0 ∷ 1 ∷ [])) (both fz (FuncAppl (UserDefinedFunction g) []ʳ)),
      ascii "(push 1)" ∷ ascii "(declare-fun f (Int) Int)" ∷ ascii "(declare-fun z () Int)" ∷ ascii "(declare-fun g () Bool)" ∷ [],
    )
    -- an axiom that applies its own function is sent once
    ∷ (
      walked (with_axiom (some fz) (0 ∷ [])) fz,
      ascii "(push 1)" ∷ ascii "(declare-fun f (Int) Int)" ∷ ascii "(declare-fun z () Int)" ∷ ascii "(assert (f z))" ∷ [],
    )
    -- %tag is not declared
    ∷ (walked (with_literals (said (ascii "%tag") ∷ [])) (literal 0 (ascii "%tag") SInt), ascii "(push 1)" ∷ [])
    -- literals of one text and two types are two
    ∷ (
      walked (with_literals (some (record { s = ascii "a"; typ = SInt }) ∷ some (record { s = ascii "a"; typ = SBool }) ∷ [])) (both (literal 0 (ascii "a") SInt) (literal 1 (ascii "a") SBool)),
      ascii "(push 1)" ∷ ascii "(declare-fun |a:int| () Int)" ∷ ascii "(declare-fun |a:bool| () Bool)" ∷ [],
    )
    -- literals of one text and one type are one
    ∷ (
      walked (with_literals (said (ascii "a") ∷ said (ascii "a") ∷ [])) (both (literal 0 (ascii "a") SInt) (literal 1 (ascii "a") SInt)),
      ascii "(push 1)" ∷ ascii "(declare-fun |a:int| () Int)" ∷ [],
    )
    -- siblings with equal terms are two nodes
    ∷ (
      moves (with_nodes (node (Boolean true) ∷ node (Boolean true) ∷ [])) 1 2,
      ascii "(push 1)" ∷ ascii "(assert true)" ∷ ascii "(pop 1)" ∷ ascii "(push 1)" ∷ ascii "(assert true)" ∷ [],
    )
    -- what a popped level declared is declared again
    ∷ (
      moves (with_nodes (node (Id z) ∷ node (Id z) ∷ [])) 1 2,
      ascii "(push 1)" ∷ ascii "(declare-fun z () Int)" ∷ ascii "(assert z)" ∷ ascii "(pop 1)" ∷ ascii "(push 1)" ∷ ascii "(declare-fun z () Int)" ∷ ascii "(assert z)" ∷ [],
    )
    ∷ []

texts_hold : map (λ e. e.0) texts ≡ map (λ e. e.1) texts
unfolding everything z f g fz literal both said with_axiom with_literals node with_nodes walked moves texts
texts_hold = refl

-- a missing axiom is looked up whether or not it would be sent: here it explains g, which is not declared
missing : List Bool
missing = misses (with_axiom none []) fz ∷ misses (with_axiom none (1 ∷ [])) fz ∷ misses (with_axiom (some (Id z)) (1 ∷ [])) fz ∷ []

missing_holds : missing ≡ true ∷ true ∷ false ∷ []
unfolding everything z f g fz with_axiom misses missing
missing_holds = refl

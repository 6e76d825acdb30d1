-- The text of a command: Context.ToString's ensures, and that a command over clean names is one line which joins its level.
use mathlib.Core.Path.{◌≡◌, refl, sym, ◌∙◌}
use mathlib.Core.List.{List, [], ◌∷◌, ◌++◌}
use mathlib.Core.Bool.{Bool, true, false, true≢false}
use Prim.Native.Nat.{ℕ}
use Rattle.basics.specs.Text.{Text, ascii, same}
use Rattle.symbols.specs.Symbols.{symbol_text}
use Rattle.basics.proofs.Texts.{same_refl}
use Rattle.basics.proofs.All.{All, end}
use Rattle.basics.proofs.Clean.{Clean, clean_append}
use Rattle.book.specs.SType.{SType, STypeDecl, SConstant}
use Rattle.book.specs.RExpr.{RExpr, Function, Literal}
use Rattle.solver_expr.specs.SolverExpr.{SExpr, to_string, flat, type_to_sexpr, types_to_sexpr}
use Rattle.solver_expr.specs.Lowering.{to_sexpr, literal_name}
use Rattle.solver_expr.proofs.Clean.{CleanS, printed, symbol_clean, CleanType, CleanConstant, CleanFunction, CleanLiteral, CleanR, type_clean, types_clean, literal_clean, expr_clean, negation_clean}
use Rattle.smt_engines.specs.SmtEngines.{CMD_PUSH, CMD_POP, CMD_CHECK_SAT, CMD_GET_MODEL, Context, Assumption, Declaration, SortDeclaration, context_to_string}
use Rattle.smt_engines.specs.Command.{Command, Push, Pop, CheckSat, GetModel, Assume, AssumeNot, DeclareSort, DeclareConstant, DeclareFunction, DeclareLiteral, assumption, declaration, command_to_string}
use Rattle.smt_engines.specs.Reader.{kind, joins}

-- ---- Context.ToString: ensures s != CMD_EXIT, s != CMD_PUSH, s != CMD_POP
differs : (s t : Text) → same s t ≡ false → ¬ (s ≡ t)
differs s t h e = true≢false (sym (rw e (same_refl t)) ∙ h)

pub record NoStackCommand (c : Context) : Type 0 where
  pub exit : ¬ (context_to_string c ≡ ascii "(exit)")
  pub push : ¬ (context_to_string c ≡ CMD_PUSH)
  pub pop : ¬ (context_to_string c ≡ CMD_POP)

pub context_ensures : (c : Context) → NoStackCommand c
unfolding context_to_string same CMD_PUSH CMD_POP
context_ensures (Assumption t) = record { exit = differs _ _ refl; push = differs _ _ refl; pop = differs _ _ refl }
context_ensures (Declaration n i o) = record { exit = differs _ _ refl; push = differs _ _ refl; pop = differs _ _ refl }
context_ensures (SortDeclaration n) = record { exit = differs _ _ refl; push = differs _ _ refl; pop = differs _ _ refl }

-- ---- a command whose text is one line, and none of the four that move or ask
pub record Plain (c : Command) : Type 0 where
  pub one : Clean (command_to_string c)
  pub joins : kind (command_to_string c) ≡ joins

assumption_clean : (e : SExpr) → CleanS e → Clean (context_to_string (assumption e))
unfolding context_to_string assumption
assumption_clean e h = clean_append (to_string e flat) (ascii ")") (printed e h) refl

assumption_joins : (e : SExpr) → kind (context_to_string (assumption e)) ≡ joins
unfolding context_to_string assumption kind same
assumption_joins e = refl

declaration_clean : (n : Text) (ts : List SType) (t : SType) → Clean n → All CleanType ts → CleanType t → Clean (context_to_string (declaration n ts t))
unfolding context_to_string declaration
declaration_clean n ts t h hs k =
    let i = to_string (types_to_sexpr ts) flat in
    let o = to_string (type_to_sexpr t) flat in
    let a : Clean (n ++ ascii " ") = clean_append n (ascii " ") h refl in
    let b : Clean (n ++ ascii " " ++ i) = clean_append (n ++ ascii " ") i a (printed (types_to_sexpr ts) (types_clean hs)) in
    let c : Clean (n ++ ascii " " ++ i ++ ascii " ") = clean_append (n ++ ascii " " ++ i) (ascii " ") b refl in
    let d : Clean (n ++ ascii " " ++ i ++ ascii " " ++ o) = clean_append (n ++ ascii " " ++ i ++ ascii " ") o c (printed (type_to_sexpr t) (type_clean t k)) in
    clean_append (n ++ ascii " " ++ i ++ ascii " " ++ o) (ascii ")") d refl

declaration_joins : (n : Text) (ts : List SType) (t : SType) → kind (context_to_string (declaration n ts t)) ≡ joins
unfolding context_to_string declaration kind same
declaration_joins n ts t = refl

pub plain_assume : (e : RExpr) (tag : ℕ) → CleanR e → Plain (Assume e tag)
unfolding command_to_string
plain_assume e tag h = record { one = assumption_clean (to_sexpr e tag) (expr_clean e tag h); joins = assumption_joins _ }

pub plain_assume_not : (e : RExpr) (tag : ℕ) → CleanR e → Plain (AssumeNot e tag)
unfolding command_to_string
plain_assume_not e tag h = record { one = assumption_clean _ (negation_clean (to_sexpr e tag) (expr_clean e tag h)); joins = assumption_joins _ }

pub plain_sort : (d : STypeDecl) → Clean d.name → Plain (DeclareSort d)
unfolding command_to_string context_to_string kind same
plain_sort d h = record { one = clean_append (symbol_text d.name) (ascii " 0)") (symbol_clean d.name h) refl; joins = refl }

pub plain_constant : (v : SConstant) → CleanConstant v → Plain (DeclareConstant v)
unfolding command_to_string
plain_constant v h =
    let n = symbol_text v.name in
    record { one = declaration_clean n [] v.typ (symbol_clean v.name h.name) end h.typ; joins = declaration_joins n [] v.typ }

pub plain_function : (f : Function) → CleanFunction f → Plain (DeclareFunction f)
unfolding command_to_string
plain_function f h =
    let n = symbol_text f.name in
    record {
      one = declaration_clean n f.input_types f.typ (symbol_clean f.name h.name) h.input_types h.typ;
      joins = declaration_joins n f.input_types f.typ;
    }

pub plain_literal : (l : Literal) → CleanLiteral l → Plain (DeclareLiteral l)
unfolding command_to_string
plain_literal l h = record { one = declaration_clean (literal_name l) [] l.typ (literal_clean l h) end h.typ; joins = declaration_joins (literal_name l) [] l.typ }

-- What is printed from names without a line end has none.
use Rattle.std.specs.Prelude.{if◌then◌else◌}
use Prim.Native.Nat.{ℕ, suc}
use mathlib.Core.Path.{refl}
use mathlib.Core.List.{List, [], ◌∷◌, ◌++◌}
use mathlib.Core.Bool.{Bool, true, false}
use lib.IntN.{ℤ, pos, negsuc}
use Rattle.basics.specs.Text.{Text, ascii}
use Rattle.basics.specs.Basics.{nat2_string}
use Rattle.symbols.specs.Symbols.{is_symbol, quoted, symbol_text}
use Rattle.basics.proofs.All.{All, end, more}
use Rattle.basics.proofs.Clean.{Clean, clean_append, clean_nat}
use Rattle.book.specs.SType.{SType, SBool, SInt, SUserType, SConstant}
use Rattle.book.specs.RExpr.{RExpr, RExprs, RPatterns, Function, Literal, is_tag, ROperator, BuiltInOperator, UserDefinedFunction, Boolean, Integer, CustomLiteral, Id, FuncAppl, IfThenElse, LetExpr, QuantifierExpr, []ʳ, ◌∷ʳ◌, []ᵖ, ◌∷ᵖ◌}
use Rattle.book.proofs.Every.{Asked, EveryR, EveryRs, EveryPs}
use Rattle.solver_expr.specs.SolverExpr.{SExpr, SExprs, S, PP, []ˢ, ◌∷ˢ◌, flat, extra_indent, space, name_to_string, to_string, list_to_string, args_to_string, boolean, integer, id, func_appl, negation, type_to_sexpr, type_to_string, type_list, types_to_sexpr}
use Rattle.solver_expr.specs.Lowering.{operator_name, literal_name, literal_to_string, bound_var_to_sexpr, bound_vars_to_sexpr, annotate, quantifier, to_sexpr, to_sexprs, patterns_to_sexprs}

-- ---- S-expressions over clean names
abbrev mutual
  pub CleanS : SExpr → Type 0
  CleanS (S t) = Clean t
  CleanS (PP s) = CleanSs s

  pub CleanSs : SExprs → Type 0
  CleanSs []ˢ = Unit {0}
  CleanSs (e ∷ˢ s) = CleanS e × CleanSs s

clean_name : (t : Text) → Clean t → Clean (name_to_string t)
unfolding name_to_string
clean_name [] h = refl
clean_name (c ∷ t) h = h

mutual
  unfolding to_string flat extra_indent space

  pub printed : (e : SExpr) → CleanS e → Clean (to_string e flat)
  printed (S t) h = clean_name t h
  printed (PP s) h = printed_list s h

  printed_list : (s : SExprs) → CleanSs s → Clean (list_to_string s flat)
  printed_list []ˢ h = refl
  printed_list (e ∷ˢ s) h =
      clean_append (to_string e flat ++ args_to_string s flat) (ascii ")")
      (clean_append (to_string e flat) (args_to_string s flat) (printed e h.0) (printed_args s h.1)) refl

  printed_args : (s : SExprs) → CleanSs s → Clean (args_to_string s flat)
  printed_args []ˢ h = refl
  printed_args (e ∷ˢ s) h = clean_append (to_string e flat) (args_to_string s flat) (printed e h.0) (printed_args s h.1)

-- ---- types, constants, functions and expressions over clean names
abbrev pub CleanType : SType → Type 0
CleanType SBool = Unit {0}
CleanType SInt = Unit {0}
CleanType (SUserType d) = Clean d.name

pub record CleanConstant (v : SConstant) : Type 0 where
  pub name : Clean v.name
  pub typ : CleanType v.typ

pub record CleanFunction (f : Function) : Type 0 where
  pub name : Clean f.name
  pub input_types : All CleanType f.input_types
  pub typ : CleanType f.typ

pub record CleanLiteral (l : Literal) : Type 0 where
  pub s : Clean l.s
  pub typ : CleanType l.typ

abbrev pub CleanOperator : ROperator → Type 0
CleanOperator (BuiltInOperator t) = Clean t
CleanOperator (UserDefinedFunction f) = CleanFunction f

abbrev pub cleanly : Asked
cleanly = record { constant = CleanConstant; operator = CleanOperator; literal = λ t l. CleanLiteral l }

abbrev pub CleanR : RExpr → Type 0
CleanR e = EveryR cleanly e

pub symbol_clean : (n : Text) → Clean n → Clean (symbol_text n)
unfolding symbol_text
symbol_clean n h = at (is_symbol n)
  where
    at : (t : Bool) → Clean (if t then n else quoted n)
    at true = h
    at false = clean_append n (ascii "|") h refl

pub type_clean : (t : SType) → CleanType t → CleanS (type_to_sexpr t)
unfolding type_to_sexpr
type_clean SBool h = refl
type_clean SInt h = refl
type_clean (SUserType d) h = symbol_clean d.name h

list_clean : {ts : List SType} → All CleanType ts → CleanSs (type_list ts)
unfolding type_list
list_clean end = tt
list_clean (more {a = t} h hs) = (type_clean t h, list_clean hs)

pub types_clean : {ts : List SType} → All CleanType ts → CleanS (types_to_sexpr ts)
unfolding types_to_sexpr
types_clean h = list_clean h

type_text_clean : (t : SType) → CleanType t → Clean (type_to_string t)
unfolding type_to_string
type_text_clean SBool h = refl
type_text_clean SInt h = refl
type_text_clean (SUserType d) h = h

pub literal_clean : (l : Literal) → CleanLiteral l → Clean (literal_name l)
unfolding literal_name
literal_clean l h =
    clean_append (l.s ++ ascii ":" ++ type_to_string l.typ) (ascii "|")
    (clean_append (l.s ++ ascii ":") (type_to_string l.typ) (clean_append l.s (ascii ":") h.s refl) (type_text_clean l.typ h.typ)) refl

bound_clean : {vv : List SConstant} → All CleanConstant vv → CleanSs (bound_vars_to_sexpr vv)
unfolding bound_vars_to_sexpr bound_var_to_sexpr id
bound_clean end = tt
bound_clean (more {a = v} h hs) = ((symbol_clean v.name h.name, (type_clean v.typ h.typ, tt)), bound_clean hs)

appl_clean : (op : Text) (s : SExprs) → Clean op → CleanSs s → CleanS (func_appl op s)
unfolding func_appl
appl_clean op []ˢ h k = h
appl_clean op (e ∷ˢ s) h k = (h, k)

annotate_clean : (e : SExpr) (s : SExprs) → CleanS e → CleanSs s → CleanS (annotate e s)
unfolding annotate
annotate_clean e []ˢ h k = h
annotate_clean e (a ∷ˢ s) h k = appl_clean (ascii "!") (e ∷ˢ a ∷ˢ s) refl (h, k)

quantifier_clean : (u : Bool) (vv : List SConstant) (s : SExprs) (e : SExpr) → All CleanConstant vv → CleanSs s → CleanS e → CleanS (quantifier u vv s e)
unfolding quantifier
quantifier_clean u [] s e h k l = l
quantifier_clean true (v ∷ vv) s e h k l = appl_clean (ascii "forall") _ refl (bound_clean h, (annotate_clean e s l k, tt))
quantifier_clean false (v ∷ vv) s e h k l = appl_clean (ascii "exists") _ refl (bound_clean h, (annotate_clean e s l k, tt))

operator_clean : (op : ROperator) → CleanOperator op → Clean (operator_name op)
unfolding operator_name
operator_clean (BuiltInOperator t) h = h
operator_clean (UserDefinedFunction f) h = symbol_clean f.name h.name

boolean_clean : (b : Bool) → CleanS (boolean b)
unfolding boolean
boolean_clean true = refl
boolean_clean false = refl

integer_clean : (x : ℤ) → CleanS (integer x)
unfolding integer
integer_clean (pos n) = clean_nat n
integer_clean (negsuc n) = appl_clean (ascii "-") _ refl (clean_nat (suc n), tt)

tag_clean : (b : Bool) (tag : ℕ) (t : Text) → Clean t → Clean (if b then nat2_string tag else t)
tag_clean true tag t h = clean_nat tag
tag_clean false tag t h = h

mutual
  unfolding to_sexpr id literal_to_string

  pub expr_clean : (e : RExpr) (tag : ℕ) → CleanR e → CleanS (to_sexpr e tag)
  expr_clean (Boolean b) tag h = boolean_clean b
  expr_clean (Integer x) tag h = integer_clean x
  expr_clean (CustomLiteral t l) tag h = tag_clean (is_tag l) tag (literal_name l) (literal_clean l h)
  expr_clean (Id v) tag h = symbol_clean v.name h.name
  expr_clean (FuncAppl op args) tag h = appl_clean (operator_name op) (to_sexprs args tag) (operator_clean op h.0) (exprs_clean args tag h.1)
  expr_clean (IfThenElse g t e) tag h =
      appl_clean (ascii "ite") _ refl (expr_clean g tag h.0, (expr_clean t tag h.1, (expr_clean e tag h.2, tt)))
  expr_clean (LetExpr v r b) tag h =
      appl_clean (ascii "let") _ refl (((symbol_clean v.name h.0.name, (expr_clean r tag h.1, tt)), tt), (expr_clean b tag h.2, tt))
  expr_clean (QuantifierExpr u vv ps b) tag h =
      quantifier_clean u vv (patterns_to_sexprs ps tag) (to_sexpr b tag) h.0 (patterns_clean ps tag h.1) (expr_clean b tag h.2)

  exprs_clean : (es : RExprs) (tag : ℕ) → EveryRs cleanly es → CleanSs (to_sexprs es tag)
  exprs_clean []ʳ tag h = tt
  exprs_clean (e ∷ʳ es) tag h = (expr_clean e tag h.0, exprs_clean es tag h.1)

  patterns_clean : (ps : RPatterns) (tag : ℕ) → EveryPs cleanly ps → CleanSs (patterns_to_sexprs ps tag)
  patterns_clean []ᵖ tag h = tt
  patterns_clean (q ∷ᵖ ps) tag h = (refl, (exprs_clean q tag h.0, patterns_clean ps tag h.1))

pub negation_clean : (e : SExpr) → CleanS e → CleanS (negation e)
unfolding negation
negation_clean e h = (refl, (h, tt))

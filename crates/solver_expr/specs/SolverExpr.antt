-- SolverExpr.dfy: S-expressions, how they are printed, and their builders.
use Rattle.std.specs.Prelude.{ℕ, suc, ◌+◌, List, [], ◌∷◌, ◌++◌, Bool, true, false, ℤ, pos, negsuc, replicate, if◌then◌else◌}
use Rattle.basics.specs.Text.{Text, ascii, newline, space_byte}
use Rattle.basics.specs.Basics.{nat2_string}
use Rattle.symbols.specs.Symbols.{symbol_text}
use Rattle.book.specs.SType.{SType, SBool, SInt, SUserType, SConstant}

-- pun: solver expression. SExprs is seq<SExpr>
mutual
  pub data SExpr : Type 0 where
    S : Text → SExpr
    PP : SExprs → SExpr

  pub data SExprs : Type 0 where
    []ˢ : SExprs
    ◌∷ˢ◌ : SExpr → SExprs → SExprs

infixr 67 ◌∷ˢ◌
-- SType.ToSExpr, TypesToSExpr and ToString. A name goes to the solver as a symbol of SMT-LIB 2.6, where the Dafny body has the name as it is: here, in id, in operator_name and in command_to_string. ToString is for the inside of a literal's name, and raw.
unfoldable pub type_to_sexpr : SType → SExpr
type_to_sexpr SBool = S (ascii "Bool")
type_to_sexpr SInt = S (ascii "Int")
type_to_sexpr (SUserType decl) = S (symbol_text decl.name)

unfoldable pub type_list : List SType → SExprs
type_list [] = []ˢ
type_list (t ∷ ts) = type_to_sexpr t ∷ˢ type_list ts

unfoldable pub types_to_sexpr : List SType → SExpr
types_to_sexpr ts = PP (type_list ts)

unfoldable pub type_to_string : SType → Text
type_to_string SBool = ascii "bool"
type_to_string SInt = ascii "int"
type_to_string (SUserType decl) = decl.name

-- the indent is a count of spaces
pub record SExprPrintConfig : Type 0 where
  pub newlines : Bool
  pub indent : ℕ

-- the default argument of ToString
unfoldable pub flat : SExprPrintConfig
flat = record { newlines = false; indent = 0 }

unfoldable pub extra_indent : SExprPrintConfig → ℕ → SExprPrintConfig
extra_indent c n = if c.newlines then record { newlines = true; indent = c.indent + n } else c

unfoldable pub space : SExprPrintConfig → Text
space c = if c.newlines then newline ∷ replicate c.indent space_byte else space_byte ∷ []

-- what a nested expression is indented by
abbrev pub indent_step : ℕ
indent_step = 2

-- ToString of S(name)
unfoldable pub name_to_string : Text → Text
name_to_string [] = ascii "()"
name_to_string (c ∷ cs) = c ∷ cs

unfoldable mutual
  pub to_string : SExpr → SExprPrintConfig → Text
  to_string (S name) c = name_to_string name
  to_string (PP s) c = list_to_string s c

  -- PP(s): the first part at the outer indent, the others deeper
  pub list_to_string : SExprs → SExprPrintConfig → Text
  list_to_string []ˢ c = ascii "()"
  list_to_string (e ∷ˢ args) c = ascii "(" ++ to_string e c ++ args_to_string args (extra_indent c indent_step) ++ ascii ")"

  -- s[1..], each after a space or a line end
  pub args_to_string : SExprs → SExprPrintConfig → Text
  args_to_string []ˢ c = []
  args_to_string (e ∷ˢ s) c = space c ++ to_string e c ++ args_to_string s c

-- SExpr builders
abbrev pub FALSE : Text
FALSE = ascii "false"

abbrev pub TRUE : Text
TRUE = ascii "true"

abbrev pub EQ : Text
EQ = ascii "="

abbrev pub NOT : Text
NOT = ascii "not"

abbrev pub AND : Text
AND = ascii "and"

unfoldable pub boolean : Bool → SExpr
boolean b = S (if b then TRUE else FALSE)

unfoldable pub id : SConstant → SExpr
id x = S (symbol_text x.name)

unfoldable pub func_appl : Text → SExprs → SExpr
func_appl op []ˢ = S op
func_appl op (a ∷ˢ args) = PP (S op ∷ˢ a ∷ˢ args)

-- SMT-LIB 2.6 decides here over the Dafny body: it has `-5` as a symbol, and a negative number as a minus applied to its numeral. Behind func_appl, which it uses.
unfoldable pub integer : ℤ → SExpr
integer (pos n) = S (nat2_string n)
integer (negsuc n) = func_appl (ascii "-") (S (nat2_string (suc n)) ∷ˢ []ˢ)

unfoldable pub eq : SExpr → SExpr → SExpr
eq e0 e1 = PP (S EQ ∷ˢ e0 ∷ˢ e1 ∷ˢ []ˢ)

unfoldable pub negation : SExpr → SExpr
negation e = PP (S NOT ∷ˢ e ∷ˢ []ˢ)

unfoldable pub big_and : SExprs → SExpr
big_and []ˢ = boolean true
big_and (e ∷ˢ []ˢ) = e
big_and (e ∷ˢ f ∷ˢ s) = PP (S AND ∷ˢ e ∷ˢ f ∷ˢ s)

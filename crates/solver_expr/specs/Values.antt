-- What the code's S-expressions mean. There is no heap: a value says where in the book its text and its parts stand.
use Rattle.std.specs.Prelude.{ℕ, ◌+◌, ◌<◌, ◌≡◌, ◌∷◌, map, Bool, false, not, ◌&&◌, ℤ, eqb, if◌then◌else◌}
use Rattle.basics.specs.Text.{Text, ascii}
use Rattle.basics.specs.Basics.{nat2_string}
use Rattle.symbols.specs.Symbols.{symbol_text}
use Rattle.book.specs.Book.{Book, Section, names, types, constants, functions, patterns, terms, size, field, entries, name_text, user_types}
use Rattle.book.specs.Decode.{Kind, if_then_else, let_expr, quantifier_expr, type_of, constant_of, function_of, literal_of, args_of, pattern_of, to_rpatterns, term}
use Rattle.book_test.specs.Promise.{Promise, Range, GoodLiteral, GoodKind}
use Rattle.solver_expr.specs.SolverExpr.{SExpr, SExprs, S, PP, []ˢ, ◌∷ˢ◌, FALSE, TRUE, EQ, NOT, AND, boolean, integer, id, func_appl, negation, type_to_sexpr, type_list}
use Rattle.solver_expr.specs.Lowering.{literal_name, literal_to_string, bound_vars_to_sexpr, annotate, to_sexpr, to_sexprs, patterns_to_sexprs}
use Rattle.solver_expr.specs.declared.Word.{Word}
use Rattle.solver_expr.specs.declared.Word.TheVariants as word
use Rattle.solver_expr.specs.declared.SName.{SName}
use Rattle.solver_expr.specs.declared.SName.TheVariants as name
use Rattle.solver_expr.specs.declared.SRow.{SRow}
use Rattle.solver_expr.specs.declared.SRow.TheVariants as row
use Rattle.solver_expr.specs.declared.SExpr as code
use Rattle.solver_expr.specs.declared.SExpr.TheVariants as value

unfoldable pub word_text : Word → Text
word_text word.False = FALSE
word_text word.True = TRUE
word_text word.Equals = EQ
word_text word.Not = NOT
word_text word.And = AND
word_text word.Minus = ascii "-"
word_text word.Ite = ascii "ite"
word_text word.Let = ascii "let"
word_text word.Forall = ascii "forall"
word_text word.Exists = ascii "exists"
word_text word.Bang = ascii "!"
word_text word.Pattern = ascii ":pattern"
word_text word.Bool = ascii "Bool"
word_text word.Int = ascii "Int"

unfoldable pub quantifier_word : Book → ℕ → Text
quantifier_word b t = if not (eqb (field b terms t 1) 0) then ascii "forall" else ascii "exists"

-- the S-expressions of a term, of a range of terms and of a range of patterns
module _ (b : Book) (tag : ℕ) where
  unfoldable pub term_of : ℕ → SExpr
  term_of t = to_sexpr (term b t) tag

  unfoldable pub terms_of : (start count : ℕ) → SExprs
  terms_of start count = to_sexprs (args_of b (term b) start count) tag

  unfoldable pub patterns_of : (start count : ℕ) → SExprs
  patterns_of start count = patterns_to_sexprs (to_rpatterns (pattern_of b (term b)) (entries b start count)) tag

  -- the string of S(string)
  unfoldable pub text_of : SName → Text
  text_of (name.Word w) = word_text w
  text_of (name.Operator n) = name_text b n
  text_of (name.Symbol n) = symbol_text (name_text b n)
  text_of (name.Numeral n) = nat2_string n
  text_of (name.Literal t) = literal_name (literal_of b t)
  text_of name.Tag = nat2_string tag

  -- the seq of PP(seq)
  unfoldable pub row_of : SRow → SExprs
  row_of (row.Negation t) = S NOT ∷ˢ term_of t ∷ˢ []ˢ
  row_of (row.Minus n) = S (ascii "-") ∷ˢ S (nat2_string n) ∷ˢ []ˢ
  row_of (row.Appl t op) = S (text_of op) ∷ˢ terms_of (field b terms t 2) (field b terms t 3)
  row_of (row.Ite t) = S (ascii "ite") ∷ˢ term_of (field b terms t 1) ∷ˢ term_of (field b terms t 2) ∷ˢ term_of (field b terms t 3) ∷ˢ []ˢ
  row_of (row.Let t) =
      S (ascii "let") ∷ˢ PP (PP (id (constant_of b (field b terms t 1)) ∷ˢ term_of (field b terms t 2) ∷ˢ []ˢ) ∷ˢ []ˢ) ∷ˢ term_of (field b terms t 3) ∷ˢ []ˢ
  row_of (row.Bindings t) = PP (id (constant_of b (field b terms t 1)) ∷ˢ term_of (field b terms t 2) ∷ˢ []ˢ) ∷ˢ []ˢ
  row_of (row.Binding t) = id (constant_of b (field b terms t 1)) ∷ˢ term_of (field b terms t 2) ∷ˢ []ˢ
  row_of (row.Quantifier t) =
      S (quantifier_word b t)
      ∷ˢ PP (bound_vars_to_sexpr (map (constant_of b) (entries b (field b terms t 2) (field b terms t 3))))
      ∷ˢ annotate (term_of (field b terms t 6)) (patterns_of (field b terms t 4) (field b terms t 5))
      ∷ˢ []ˢ
  row_of (row.BoundVars t) = bound_vars_to_sexpr (map (constant_of b) (entries b (field b terms t 2) (field b terms t 3)))
  row_of (row.BoundVar v) = id (constant_of b v) ∷ˢ type_to_sexpr (constant_of b v).typ ∷ˢ []ˢ
  row_of (row.Annotated t) = S (ascii "!") ∷ˢ term_of (field b terms t 6) ∷ˢ patterns_of (field b terms t 4) (field b terms t 5)
  row_of (row.Terms p) = terms_of (field b patterns p 0) (field b patterns p 1)
  row_of (row.Types f) = type_list (function_of b f).input_types

  unfoldable pub meaning : code.SExpr → SExpr
  meaning (value.S n) = S (text_of n)
  meaning (value.PP r) = PP (row_of r)

-- what a value speaks of is in the book
module _ (b : Book) where
  pub record OfKind (k : Kind) (t : ℕ) : Type 0 where
    pub here : t < size b terms
    pub good : GoodKind k b t

  pub record LiteralHere (t : ℕ) : Type 0 where
    pub here : t < size b terms
    pub good : GoodLiteral b t

  pub record QuantifierHere (t : ℕ) : Type 0 where
    pub here : t < size b terms
    pub good : GoodKind quantifier_expr b t
    pub some : 0 < field b terms t 3

  unfoldable pub FineName : SName → Type 0
  FineName (name.Word w) = Unit {0}
  FineName (name.Operator n) = n < size b names
  FineName (name.Symbol n) = n < size b names
  FineName (name.Numeral n) = Unit {0}
  FineName (name.Literal t) = LiteralHere t
  FineName name.Tag = Unit {0}

  pub record ApplHere (op : SName) (t : ℕ) : Type 0 where
    pub operator : FineName op
    pub here : t < size b terms
    pub args : Range b (size b terms) (field b terms t 2) (field b terms t 3)

  unfoldable pub FineRow : SRow → Type 0
  FineRow (row.Negation t) = t < size b terms
  FineRow (row.Minus n) = Unit {0}
  FineRow (row.Appl t op) = ApplHere op t
  FineRow (row.Ite t) = OfKind if_then_else t
  FineRow (row.Let t) = OfKind let_expr t
  FineRow (row.Bindings t) = OfKind let_expr t
  FineRow (row.Binding t) = OfKind let_expr t
  FineRow (row.Quantifier t) = QuantifierHere t
  FineRow (row.BoundVars t) = QuantifierHere t
  FineRow (row.BoundVar v) = v < size b constants
  FineRow (row.Annotated t) = QuantifierHere t
  FineRow (row.Terms p) = p < size b patterns
  FineRow (row.Types f) = f < size b functions

  unfoldable pub Fine : code.SExpr → Type 0
  Fine (value.S n) = FineName n
  Fine (value.PP r) = FineRow r

-- What the functions ask: an accepted book, and a record that it has.
pub record Ready (b : Book) (s : Section) (k : ℕ) : Type 0 where
  pub promise : Promise b
  pub here : k < size b s

pub record ReadyType (b : Book) (k : ℕ) : Type 0 where
  pub promise : Promise b
  pub here : k < user_types + size b types

pub record ReadyLiteral (b : Book) (t : ℕ) : Type 0 where
  pub promise : Promise b
  pub here : LiteralHere b t

-- What they give: the value r is good, and means what is said.
pub record IsBoolean (x : Bool) (r : code.SExpr) : Type 0 where
  pub fine : (b : Book) → Fine b r
  pub is : (b : Book) (tag : ℕ) → meaning b tag r ≡ boolean x

pub record IsInteger (x : ℤ) (r : code.SExpr) : Type 0 where
  pub fine : (b : Book) → Fine b r
  pub is : (b : Book) (tag : ℕ) → meaning b tag r ≡ integer x

pub record IsAppl (op : SName) (t count : ℕ) (r : code.SExpr) : Type 0 where
  pub fine : (b : Book) → ApplHere b op t → Fine b r
  pub is : (b : Book) (tag : ℕ) → count ≡ field b terms t 3 → meaning b tag r ≡ func_appl (text_of b tag op) (terms_of b tag (field b terms t 2) (field b terms t 3))

pub record IsNegation (t : ℕ) (r : code.SExpr) : Type 0 where
  pub fine : (b : Book) → t < size b terms → Fine b r
  pub is : (b : Book) (tag : ℕ) → meaning b tag r ≡ negation (term_of b tag t)

pub record IsId (b : Book) (v : ℕ) (r : code.SExpr) : Type 0 where
  pub fine : Fine b r
  pub is : (tag : ℕ) → meaning b tag r ≡ id (constant_of b v)

pub record IsType (b : Book) (k : ℕ) (r : code.SExpr) : Type 0 where
  pub fine : Fine b r
  pub is : (tag : ℕ) → meaning b tag r ≡ type_to_sexpr (type_of b k)

pub record IsLiteral (b : Book) (t : ℕ) (r : code.SExpr) : Type 0 where
  pub fine : Fine b r
  pub is : (tag : ℕ) → meaning b tag r ≡ S (literal_to_string (literal_of b t) tag)

-- the value r is the S-expression of term t
pub record Lowered (b : Book) (t : ℕ) (r : code.SExpr) : Type 0 where
  pub fine : Fine b r
  pub is : (tag : ℕ) → meaning b tag r ≡ term_of b tag t

unfoldable pub without_variables : Book → ℕ → Bool
without_variables b t = eqb (field b terms t 0) 8 && eqb (field b terms t 3) 0

-- term r has t's S-expression, and is no quantifier without variables
pub record Bare (b : Book) (t r : ℕ) : Type 0 where
  pub here : r < size b terms
  pub some : without_variables b r ≡ false
  pub is : (tag : ℕ) → term_of b tag r ≡ term_of b tag t

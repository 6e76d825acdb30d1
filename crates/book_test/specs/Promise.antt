-- The promise: what a book that the test accepts has. Every crate above relies on this, and on nothing else of the test.
use Rattle.std.specs.Prelude.{ℕ, suc, ◌+◌, ◌<◌, ◌≤◌, ◌≡◌, true, length}
use Rattle.book.specs.Book.{Book, letters, names, types, constants, functions, axioms, patterns, terms, contexts, lists, size, field, letter, name_text, user_types, no_term, depth_most}
use Rattle.book.specs.Laid.{Laid}
use Rattle.book.specs.Program.{depth}
use Rattle.book.specs.Decode.{Kind, boolean, integer, custom_literal, id, built_in, application, if_then_else, let_expr, quantifier_expr, kinds, kind_of, literal_of, program}
use Rattle.symbols.specs.Symbols.{is_name}
use Rattle.book_names.specs.Names.{literal_named}

-- a range of lists whose entries are below a limit
pub record Range (b : Book) (limit start count : ℕ) : Type 0 where
  pub ends : start + count ≤ size b lists
  pub below : (i : ℕ) → i < count → field b lists (start + i) 0 < limit

pub record GoodName (b : Book) (n : ℕ) : Type 0 where
  pub ends : field b names n 0 + field b names n 1 ≤ size b letters

pub record GoodConstant (b : Book) (k : ℕ) : Type 0 where
  pub name : field b constants k 0 < size b names
  pub typ : field b constants k 1 < user_types + size b types

pub record GoodFunction (b : Book) (k : ℕ) : Type 0 where
  pub name : field b functions k 0 < size b names
  pub typ : field b functions k 1 < user_types + size b types
  pub input_types : Range b (user_types + size b types) (field b functions k 2) (field b functions k 3)
  pub explained_by : Range b (size b axioms) (field b functions k 4) (field b functions k 5)

pub record GoodAxiom (b : Book) (k : ℕ) : Type 0 where
  pub term : ¬ (field b axioms k 0 ≡ no_term) → field b axioms k 0 < size b terms
  pub explains : Range b (size b functions) (field b axioms k 1) (field b axioms k 2)

pub record GoodContext (b : Book) (k : ℕ) : Type 0 where
  pub parent : field b contexts k 0 ≤ k
  pub term : field b contexts k 1 < size b terms
  pub trace : field b contexts k 2 ≤ size b names

-- a pattern whose terms are below a limit: the number of terms, or the quantifier that lists it
pub record GoodPattern (b : Book) (limit p : ℕ) : Type 0 where
  pub here : p < size b patterns
  pub range : Range b limit (field b patterns p 0) (field b patterns p 1)

pub record GoodPatterns (b : Book) (limit start count : ℕ) : Type 0 where
  pub ends : start + count ≤ size b lists
  pub each : (i : ℕ) → i < count → GoodPattern b limit (field b lists (start + i) 0)

pub record GoodLiteral (b : Book) (t : ℕ) : Type 0 where
  pub name : field b terms t 1 < size b names
  pub typ : field b terms t 2 < user_types + size b types

pub record GoodBuiltIn (b : Book) (t : ℕ) : Type 0 where
  pub name : field b terms t 1 < size b names
  pub args : Range b t (field b terms t 2) (field b terms t 3)

pub record GoodApplication (b : Book) (t : ℕ) : Type 0 where
  pub function : field b terms t 1 < size b functions
  pub args : Range b t (field b terms t 2) (field b terms t 3)

pub record GoodIfThenElse (b : Book) (t : ℕ) : Type 0 where
  pub guard : field b terms t 1 < t
  pub thn : field b terms t 2 < t
  pub els : field b terms t 3 < t

pub record GoodLet (b : Book) (t : ℕ) : Type 0 where
  pub v : field b terms t 1 < size b constants
  pub rhs : field b terms t 2 < t
  pub body : field b terms t 3 < t

pub record GoodQuantifier (b : Book) (t : ℕ) : Type 0 where
  pub vars : Range b (size b constants) (field b terms t 2) (field b terms t 3)
  pub patterns : GoodPatterns b t (field b terms t 4) (field b terms t 5)
  pub body : field b terms t 6 < t

-- what a term of a kind has
unfoldable pub GoodKind : Kind → Book → ℕ → Type 0
GoodKind boolean b t = field b terms t 1 < 2
GoodKind integer b t = Unit {0}
GoodKind custom_literal b t = GoodLiteral b t
GoodKind id b t = field b terms t 1 < size b constants
GoodKind built_in b t = GoodBuiltIn b t
GoodKind application b t = GoodApplication b t
GoodKind if_then_else b t = GoodIfThenElse b t
GoodKind let_expr b t = GoodLet b t
GoodKind quantifier_expr b t = GoodQuantifier b t

pub record GoodTerm (b : Book) (t : ℕ) : Type 0 where
  pub known : field b terms t 0 < length kinds
  pub fields : GoodKind (kind_of (field b terms t 0)) b t

pub record Promise (b : Book) : Type 0 where
  pub letters_laid : Laid b letters
  pub names_laid : Laid b names
  pub types_laid : Laid b types
  pub constants_laid : Laid b constants
  pub functions_laid : Laid b functions
  pub axioms_laid : Laid b axioms
  pub patterns_laid : Laid b patterns
  pub terms_laid : Laid b terms
  pub contexts_laid : Laid b contexts
  pub lists_laid : Laid b lists
  pub letter_low : (i : ℕ) → i < size b letters → 0x20 ≤ letter b i
  pub letter_high : (i : ℕ) → i < size b letters → letter b i ≤ 0x7E
  pub name : (n : ℕ) → n < size b names → GoodName b n
  pub type_name : (k : ℕ) → k < size b types → field b types k 0 < size b names
  pub constant : (k : ℕ) → k < size b constants → GoodConstant b k
  pub function : (k : ℕ) → k < size b functions → GoodFunction b k
  pub axiom' : (k : ℕ) → k < size b axioms → GoodAxiom b k
  pub pattern : (p : ℕ) → p < size b patterns → GoodPattern b (size b terms) p
  pub term : (t : ℕ) → t < size b terms → GoodTerm b t
  pub context : (k : ℕ) → k < size b contexts → GoodContext b k
  pub shallow : (k : ℕ) → k < size b contexts → depth (program b) (suc k) ≤ depth_most
  pub type_named : (k : ℕ) → k < size b types → is_name (name_text b (field b types k 0)) ≡ true
  pub constant_named : (k : ℕ) → k < size b constants → is_name (name_text b (field b constants k 0)) ≡ true
  pub function_named : (k : ℕ) → k < size b functions → is_name (name_text b (field b functions k 0)) ≡ true
  pub literal-named : (t : ℕ) → t < size b terms → kind_of (field b terms t 0) ≡ custom_literal → literal_named (literal_of b t) ≡ true

-- The hypotheses: the records of a book are told apart by what they print, one test over all of them, used or not.
use Rattle.std.specs.Prelude.{ℕ, Bool, true, false, not, ◌&&◌, List, [], ◌∷◌, ◌++◌, map, eqb, if◌then◌else◌}
use Rattle.basics.specs.Text.{Text, same}
use Rattle.basics.specs.Lists.{all, join_below}
use Rattle.book.specs.SType.{STypeDecl, SType, SBool, SInt, SUserType}
use Rattle.book.specs.RExpr.{Literal, is_tag}
use Rattle.book.specs.Book.{Book, types, constants, functions, terms, size, field, name_text}
use Rattle.book.specs.Decode.{Kind, boolean, integer, custom_literal, id, built_in, application, if_then_else, let_expr, quantifier_expr, kind_of, constant_of, function_of, literal_of}
use Rattle.declared_once.specs.Symbols.{Symbol, a_sort, a_constant, a_function, a_literal, plain_name, same_name, named_as, built_in_types, named_type}

-- what prints: a symbol, a built-in operator, a built-in type
pub data Entry : Type 0 where
  symbol : Symbol → Entry
  operator : Text → Entry
  built_in_type : Text → Entry

-- one type number
unfoldable pub same_type : SType → SType → Bool
same_type SBool SBool = true
same_type SBool SInt = false
same_type SBool (SUserType d) = false
same_type SInt SBool = false
same_type SInt SInt = true
same_type SInt (SUserType d) = false
same_type (SUserType c) SBool = false
same_type (SUserType c) SInt = false
same_type (SUserType c) (SUserType d) = eqb c.number d.number

-- literals of one text have one type; of different texts they print differently
unfoldable pub literals_clash : Literal → Literal → Bool
literals_clash l m = if same l.s m.s then not (same_type l.typ m.typ) else same (plain_name (a_literal l)) (plain_name (a_literal m))

-- what is enough: literals that print alike have one text and one type
unfoldable pub literals_alike : Literal → Literal → Bool
literals_alike l m = same (plain_name (a_literal l)) (plain_name (a_literal m)) && not (same l.s m.s && same_type l.typ m.typ)

module _ (literals : Literal → Literal → Bool) where
  unfoldable pub symbols_clash : Symbol → Symbol → Bool
  symbols_clash (a_literal l) (a_literal m) = literals l m
  symbols_clash (a_literal l) (a_sort d) = same_name (a_literal l) (a_sort d)
  symbols_clash (a_literal l) (a_constant v) = same_name (a_literal l) (a_constant v)
  symbols_clash (a_literal l) (a_function f) = same_name (a_literal l) (a_function f)
  symbols_clash (a_sort d) y = same_name (a_sort d) y
  symbols_clash (a_constant v) y = same_name (a_constant v) y
  symbols_clash (a_function f) y = same_name (a_function f) y

  -- two records that must not stand in one book. Operators of one name may
  unfoldable pub clash : Entry → Entry → Bool
  clash (symbol x) (symbol y) = symbols_clash x y
  clash (symbol x) (operator n) = named_as n x
  clash (symbol x) (built_in_type n) = named_type n x
  clash (operator n) (symbol y) = named_as n y
  clash (operator n) (operator m) = false
  clash (operator n) (built_in_type m) = false
  clash (built_in_type n) (symbol y) = named_type n y
  clash (built_in_type n) (operator m) = false
  clash (built_in_type n) (built_in_type m) = false

-- no element clashes with a later one
unfoldable pub apart : {A : Type 0} → (A → A → Bool) → List A → Bool
apart clashes [] = true
apart clashes (x ∷ xs) = all xs (λ y. not (clashes x y)) && apart clashes xs

module _ (b : Book) where
  unfoldable pub sort_of : ℕ → STypeDecl
  sort_of k = record { number = k; name = name_text b (field b types k 0) }

  unfoldable pub term_entry : Kind → ℕ → List Entry
  term_entry boolean t = []
  term_entry integer t = []
  term_entry custom_literal t = if is_tag (literal_of b t) then [] else symbol (a_literal (literal_of b t)) ∷ []
  term_entry id t = []
  term_entry built_in t = operator (name_text b (field b terms t 1)) ∷ []
  term_entry application t = []
  term_entry if_then_else t = []
  term_entry let_expr t = []
  term_entry quantifier_expr t = []

  unfoldable pub type_entries : List Entry
  type_entries = map built_in_type built_in_types ++ join_below (size b types) (λ k. symbol (a_sort (sort_of k)) ∷ [])

  unfoldable pub constant_entries : List Entry
  constant_entries = join_below (size b constants) (λ k. symbol (a_constant (constant_of b k)) ∷ [])

  unfoldable pub function_entries : List Entry
  function_entries = join_below (size b functions) (λ k. symbol (a_function (function_of b k)) ∷ [])

  unfoldable pub term_entries : List Entry
  term_entries = join_below (size b terms) (λ t. term_entry (kind_of (field b terms t 0)) t)

  -- every record that prints a name, used or not; %tag aside, which is never declared
  unfoldable pub entries_of : List Entry
  entries_of = type_entries ++ (constant_entries ++ (function_entries ++ term_entries))

  -- document 02's hypothesis
  unfoldable pub told_apart : Bool
  told_apart = apart (clash literals_clash) entries_of

  -- a weaker one: a text may be a literal of two types that print differently
  unfoldable pub prints_apart : Bool
  prints_apart = apart (clash literals_alike) entries_of

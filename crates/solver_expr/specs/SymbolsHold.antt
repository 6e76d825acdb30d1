-- What refusal 28 gives to the solver: each name that a script may have is a symbol of SMT-LIB 2.6, simple or between bars.
use Rattle.std.specs.Prelude.{ℕ, ◌<◌, ◌≡◌, true, false}
use Rattle.symbols.specs.Symbols.{is_symbol, symbol_text}
use Rattle.book.specs.Book.{Book, types, constants, functions, terms, size, field, name_text}
use Rattle.book.specs.RExpr.{is_tag}
use Rattle.book.specs.Decode.{custom_literal, kind_of, constant_of, function_of, literal_of}
use Rattle.solver_expr.specs.Lowering.{literal_name}

pub record SymbolsHold (b : Book) : Type 0 where
  pub typ : (k : ℕ) → k < size b types → is_symbol (symbol_text (name_text b (field b types k 0))) ≡ true
  pub constant : (k : ℕ) → k < size b constants → is_symbol (symbol_text (constant_of b k).name) ≡ true
  pub function : (k : ℕ) → k < size b functions → is_symbol (symbol_text (function_of b k).name) ≡ true
  pub literal : (t : ℕ) → t < size b terms → kind_of (field b terms t 0) ≡ custom_literal → is_tag (literal_of b t) ≡ false → is_symbol (literal_name (literal_of b t)) ≡ true

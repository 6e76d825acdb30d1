-- What the writers write, of records of a book.
use Rattle.std.specs.Prelude.{ℕ, ◌++◌}
use Rattle.basics.specs.Text.{Text, ascii}
use Rattle.symbols.specs.Symbols.{symbol_text}
use Rattle.book.specs.Book.{Book, types, field, name_text}
use Rattle.book.specs.SType.{STypeDecl}
use Rattle.book.specs.Decode.{type_of, function_of}
use Rattle.solver_expr.specs.SolverExpr.{to_string, flat, type_to_sexpr, types_to_sexpr}

module _ (b : Book) where
  -- user type k, as type_of has it
  abbrev pub type_decl_of : ℕ → STypeDecl
  type_decl_of k = record { number = k; name = name_text b (field b types k 0) }

  unfoldable pub type_text : ℕ → Text
  type_text typ = to_string (type_to_sexpr (type_of b typ)) flat

  -- the input types of function k
  unfoldable pub types_text : ℕ → Text
  types_text k = to_string (types_to_sexpr (function_of b k).input_types) flat

  -- the head of a function's declaration
  unfoldable pub signature_text : ℕ → Text
  signature_text k = ascii "(declare-fun " ++ symbol_text (function_of b k).name ++ ascii " " ++ types_text k

-- Names of literals.
use Rattle.std.specs.Prelude.{◌<◌, ◌≡◌, ◌∷◌, ◌++◌}
use Rattle.basics.specs.Text.{Text, ascii}
use Rattle.book.specs.Book.{Book, names, size, name_text}
use Rattle.book.specs.Decode.{type_of}
use Rattle.solver_expr.specs.SolverExpr.{type_to_string}
use Rattle.literal_names.specs.declared.Sought.{Sought}

-- a name between its bars, and the whole
abbrev pub pair_text : Text → Text → Text
pair_text s typ = s ++ (0x3A ∷ typ)

unfoldable pub barred : Text → Text → Text
barred s typ = ascii "|" ++ s ++ ascii ":" ++ typ ++ ascii "|"

-- s and typ are the texts of the name and of the type that are looked for
pub record Seeks (b : Book) (q : Sought) (s typ : Text) : Type 0 where
  pub here : q.name < size b names
  pub name : s ≡ name_text b q.name
  pub type : typ ≡ type_to_string (type_of b q.typ)

-- The names of a tested book are symbols.
use mathlib.Core.Path.{◌≡◌, refl}
use mathlib.Core.Bool.{true, false}
use borrow.Author.Tests.{not-true}
use Rattle.basics.specs.Outcome.{accepted}
use Rattle.basics.specs.Lists.{all}
use Rattle.symbols.specs.Symbols.{plain, has_bar, is_symbol}
use Rattle.symbols.proofs.Kept.{is-symbol}
use Rattle.symbols.proofs.Bars.{literal_symbol}
use Rattle.book.specs.Book.{Book}
use Rattle.book.specs.SType.{SType, SBool, SInt, SUserType}
use Rattle.book.specs.RExpr.{Literal, is_tag}
use Rattle.book.specs.Decode.{constant_of, function_of, literal_of}
use Rattle.book_names.specs.Names.{plain_type, literal_named}
use Rattle.book_names.proofs.Looked.{literal_plain}
use Rattle.book_test.specs.BookTest.{book_test}
use Rattle.book_test.proofs.Promise.{promise}
use Rattle.solver_expr.specs.SolverExpr.{type_to_string}
use Rattle.solver_expr.specs.Lowering.{literal_name}
use Rattle.solver_expr.specs.SymbolsHold.{SymbolsHold}

plain-type : (t : SType) → plain_type t ≡ true → has_bar (type_to_string t) ≡ false
unfolding plain_type type_to_string has_bar all plain
plain-type SBool h = refl
plain-type SInt h = refl
plain-type (SUserType d) h = not-true (has_bar d.name) h

named_symbol : (l : Literal) → literal_named l ≡ true → is_tag l ≡ false → is_symbol (literal_name l) ≡ true
unfolding literal_name
named_symbol l h e = let r = literal_plain l h e in literal_symbol l.s (type_to_string l.typ) r.0 (plain-type l.typ r.1)

pub symbols_hold : (b : Book) → book_test b ≡ accepted tt → SymbolsHold b
unfolding constant_of function_of
symbols_hold b tested =
    let P = promise b tested in
    record {
      typ = λ k l. is-symbol _ (P.type_named k l);
      constant = λ k l. is-symbol _ (P.constant_named k l);
      function = λ k l. is-symbol _ (P.function_named k l);
      literal = λ t l k e. named_symbol (literal_of b t) (P.literal-named t l k) e;
    }

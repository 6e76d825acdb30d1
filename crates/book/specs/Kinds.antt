-- The kinds of terms and the types as the code has them: the number of each, and what it is in document 01.
use Rattle.std.specs.Prelude.{◌≡◌, ◌≤◌, ℕ, suc, Result, MatchResult}
use Rattle.book.specs.declared.kind.Kind.{Kind}
use Rattle.book.specs.declared.kind.Kind.TheVariants.{Boolean, Integer, CustomLiteral, Id, BuiltIn, Application, IfThenElse, LetExpr, QuantifierExpr}
use Rattle.book.specs.declared.kind.NoKind.{NoKind}
use Rattle.book.specs.declared.stype.SType as code
use Rattle.book.specs.declared.stype.SType.TheVariants as type
use Rattle.book.specs.Decode as book

abbrev pub number_of : Kind → ℕ
number_of Boolean = 0
number_of Integer = 1
number_of CustomLiteral = 2
number_of Id = 3
number_of BuiltIn = 4
number_of Application = 5
number_of IfThenElse = 6
number_of LetExpr = 7
number_of QuantifierExpr = 8

-- the kind with this number; none from 9 on
abbrev pub Decodes : ℕ → Result Kind NoKind → Type 0
Decodes number r = MatchResult r (λ kind. number_of kind ≡ number) (λ e. 9 ≤ number)

abbrev pub meant : Kind → book.Kind
meant Boolean = book.boolean
meant Integer = book.integer
meant CustomLiteral = book.custom_literal
meant Id = book.id
meant BuiltIn = book.built_in
meant Application = book.application
meant IfThenElse = book.if_then_else
meant LetExpr = book.let_expr
meant QuantifierExpr = book.quantifier_expr

abbrev pub type_number : code.SType → ℕ
type_number type.Bool = 0
type_number type.Int = 1
type_number (type.User k) = suc (suc k)

abbrev pub HasNumber : ℕ → code.SType → Type 0
HasNumber number t = type_number t ≡ number

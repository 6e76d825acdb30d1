-- The parts of rows, by place.
use Rattle.std.specs.Prelude.{ℕ, zero, suc, ◌+◌, ◌*◌, ◌<◌, ◌≡◌, [], Bool, true, false}
use Rattle.basics.specs.Write.{MOST}
use Rattle.book.specs.Book.{Book, functions, patterns, terms, lists, size, field}
use Rattle.book_test.specs.Promise.{Promise}
use Rattle.solver_expr.specs.SolverExpr.{SExpr, SExprs, S, PP, []ˢ, ◌∷ˢ◌}
use Rattle.solver_expr.specs.Values.{text_of, row_of, term_of, meaning, FineName, FineRow, Fine}
use Rattle.solver_expr.specs.declared.SName.{SName}
use Rattle.solver_expr.specs.declared.SRow.{SRow}
use Rattle.solver_expr.specs.declared.SRow.TheVariants as row
use Rattle.solver_expr.specs.declared.SExpr as code
use Rattle.solver_expr.specs.declared.SExpr.TheVariants as value
use Rattle.sexpr_rows.specs.declared.Part.{Part}
use Rattle.sexpr_rows.specs.declared.Part.TheVariants as part
use Rattle.sexpr_rows.specs.declared.Turn.{Turn}
use Rattle.sexpr_rows.specs.declared.Turn.TheVariants as turn

unfoldable pub lengthˢ : SExprs → ℕ
lengthˢ []ˢ = 0
lengthˢ (e ∷ˢ s) = suc (lengthˢ s)

-- s[i], and S("") behind the end
unfoldable pub atˢ : SExprs → ℕ → SExpr
atˢ []ˢ i = S []
atˢ (e ∷ˢ s) zero = e
atˢ (e ∷ˢ s) (suc i) = atˢ s i

-- s[i..]
unfoldable pub dropˢ : ℕ → SExprs → SExprs
dropˢ zero s = s
dropˢ (suc i) []ˢ = []ˢ
dropˢ (suc i) (e ∷ˢ s) = dropˢ i s

unfoldable pub row_length : Book → SRow → ℕ
row_length b (row.Negation t) = 2
row_length b (row.Minus n) = 2
row_length b (row.Appl t op) = 1 + field b terms t 3
row_length b (row.Ite t) = 4
row_length b (row.Let t) = 3
row_length b (row.Bindings t) = 1
row_length b (row.Binding t) = 2
row_length b (row.Quantifier t) = 3
row_length b (row.BoundVars t) = field b terms t 3
row_length b (row.BoundVar v) = 2
row_length b (row.Annotated t) = 2 + 2 * field b terms t 5
row_length b (row.Terms p) = field b patterns p 1
row_length b (row.Types f) = field b functions f 3

unfoldable pub part_of : Book → ℕ → Part → SExpr
part_of b tag (part.Known e) = meaning b tag e
part_of b tag (part.Term t) = term_of b tag t

unfoldable pub FinePart : Book → Part → Type 0
FinePart b (part.Known e) = Fine b e
FinePart b (part.Term t) = t < size b terms

-- What the functions ask.
pub record ReadyRow (b : Book) (p : SRow) : Type 0 where
  pub promise : Promise b
  pub fine : FineRow b p

pub record ReadyPlace (b : Book) (p : SRow) (i : ℕ) : Type 0 where
  pub promise : Promise b
  pub fine : FineRow b p
  pub within : i < row_length b p

pub record Listed (b : Book) (start i : ℕ) : Type 0 where
  pub promise : Promise b
  pub here : start + i < size b lists

-- a is part i of the row p
pub record Element (b : Book) (p : SRow) (i : ℕ) (a : Part) : Type 0 where
  pub fine : FinePart b a
  pub is : (tag : ℕ) → part_of b tag a ≡ atˢ (row_of b tag p) i

-- the turn of a part, with more parts behind it or none
unfoldable pub turn_for : code.SExpr → Bool → Turn
turn_for (value.S n) more = turn.Name n
turn_for (value.PP q) true = turn.Row q
turn_for (value.PP q) false = turn.Last q

-- What stands at place i of the row p.
pub record AtName (b : Book) (p : SRow) (i : ℕ) (n : SName) : Type 0 where
  pub fine : FineName b n
  pub soon : i < MOST
  pub is : (tag : ℕ) → dropˢ i (row_of b tag p) ≡ S (text_of b tag n) ∷ˢ dropˢ (i + 1) (row_of b tag p)

pub record AtRow (b : Book) (p : SRow) (i : ℕ) (q : SRow) : Type 0 where
  pub fine : FineRow b q
  pub soon : i < MOST
  pub is : (tag : ℕ) → dropˢ i (row_of b tag p) ≡ PP (row_of b tag q) ∷ˢ dropˢ (i + 1) (row_of b tag p)

pub record AtLast (b : Book) (p : SRow) (i : ℕ) (q : SRow) : Type 0 where
  pub fine : FineRow b q
  pub is : (tag : ℕ) → dropˢ i (row_of b tag p) ≡ PP (row_of b tag q) ∷ˢ []ˢ

pub record AtEnd (b : Book) (p : SRow) (i : ℕ) : Type 0 where
  pub is : (tag : ℕ) → dropˢ i (row_of b tag p) ≡ []ˢ

unfoldable pub Turned : Book → SRow → ℕ → Turn → Type 0
Turned b p i (turn.Name n) = AtName b p i n
Turned b p i (turn.Row q) = AtRow b p i q
Turned b p i (turn.Last q) = AtLast b p i q
Turned b p i turn.End = AtEnd b p i

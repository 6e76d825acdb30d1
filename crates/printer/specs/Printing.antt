-- What the printers write.
use Rattle.std.specs.Prelude.{ℕ, zero, suc, min, ◌≡◌, List, [], ◌++◌, Bool}
use Rattle.basics.specs.Text.{Text, ascii}
use Rattle.basics.specs.Write.{MOST, Wrote}
use Rattle.book.specs.Book.{Book}
use Rattle.book_test.specs.Promise.{Promise}
use Rattle.solver_expr.specs.SolverExpr.{SExpr, SExprs, []ˢ, ◌∷ˢ◌, SExprPrintConfig, extra_indent, indent_step, space, name_to_string, to_string, args_to_string}
use Rattle.solver_expr.specs.Values.{text_of, row_of, meaning, Fine}
use Rattle.solver_expr.specs.declared.SName.{SName}
use Rattle.solver_expr.specs.declared.SRow.{SRow}
use Rattle.solver_expr.specs.declared.SExpr as code

-- the code's two numbers show the layout c: an indent past 64 bits stays at the largest number
pub record Shows (newlines : Bool) (indent : ℕ) (c : SExprPrintConfig) : Type 0 where
  pub lines : c.newlines ≡ newlines
  pub spaces : indent ≡ min c.indent MOST

-- a text that hangs on the layout is written, in every layout that the two numbers show
pub record WroteIn (newlines : Bool) (indent : ℕ) (text : SExprPrintConfig → Text) (o o' : List ℕ) (r : ℕ) : Type 0 where
  pub wrote : (c : SExprPrintConfig) → Shows newlines indent c → Wrote (text c) o o' r

-- the layout of the parts behind part i: deeper behind the head
unfoldable pub layout_behind : ℕ → SExprPrintConfig → SExprPrintConfig
layout_behind zero c = extra_indent c indent_step
layout_behind (suc i) c = c

pub record Behind (i : ℕ) (newlines : Bool) (indent r : ℕ) : Type 0 where
  pub shows : (c : SExprPrintConfig) → Shows newlines indent c → Shows newlines r (layout_behind i c)

-- what stands before part i: nothing before the head
unfoldable pub lead : ℕ → SExprPrintConfig → Text
lead zero c = []
lead (suc i) c = space c

-- the parts s of a row, of which part i is the first
unfoldable pub parts_from : ℕ → SExprs → SExprPrintConfig → Text
parts_from zero []ˢ c = []
parts_from zero (e ∷ˢ s) c = to_string e c ++ args_to_string s (extra_indent c indent_step)
parts_from (suc i) s c = args_to_string s c

unfoldable pub open_part : ℕ → SExprPrintConfig → Text
open_part i c = lead i c ++ ascii "("

module _ (b : Book) (tag : ℕ) where
  unfoldable pub name_part : SName → ℕ → SExprPrintConfig → Text
  name_part n i c = lead i c ++ name_to_string (text_of b tag n)

  -- a row behind its parenthesis
  unfoldable pub row_text : SRow → SExprPrintConfig → Text
  row_text p c = parts_from 0 (row_of b tag p) c ++ ascii ")"

  unfoldable pub expr_text : code.SExpr → SExprPrintConfig → Text
  expr_text e c = to_string (meaning b tag e) c

pub record ReadyExpr (b : Book) (e : code.SExpr) : Type 0 where
  pub promise : Promise b
  pub fine : Fine b e

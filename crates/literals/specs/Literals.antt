-- The step that declares a literal.
use Rattle.std.specs.Prelude.{ℕ, ◌+◌, Bool, not, ◌&&◌, ◌||◌, List, eqb, get_or}
use Rattle.basics.specs.Text.{Text}
use Rattle.book.specs.Book.{Book}
use Rattle.book.specs.Decode.{literal_of, literal_at}
use Rattle.book.specs.RExpr.{is_tag}
use Rattle.solver_expr.specs.Lowering.{literal_name}
use Rattle.rsolver.specs.Step.{Step, ◌⨟◌, unless}
use Rattle.rsolver.specs.LevelState.{LevelState, literal_places, has_name}
use Rattle.rsolver.specs.REngine.{declare_new_types, declare_literal}
use Rattle.levels.specs.Types.{engine}

-- term k is a literal that declared the name
unfoldable pub declares_name : Book → Text → (levels : List ℕ) → ℕ → Bool
declares_name b name levels k = not (eqb (get_or levels (literal_places + k) 0) 0) && has_name name (literal_at b k)

module _ (b : Book) where
  -- of a literal that is to be declared
  unfoldable pub new_literal_step : ℕ → Step LevelState
  new_literal_step t = declare_new_types (engine b) (literal_of b t).typ ⨟ declare_literal (engine b) t (literal_of b t)

  -- DeclareNewSymbols of a CustomLiteral
  unfoldable pub literal_step : ℕ → Step LevelState
  literal_step t = unless (λ s. is_tag (literal_of b t) || (engine b).is_named (literal_name (literal_of b t)) s) (new_literal_step t)

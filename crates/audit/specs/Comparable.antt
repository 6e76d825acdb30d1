-- What the comparison asks for, and what a line of the script leads to: the code's step through `verdict`.
use Rattle.std.specs.Prelude.{ℕ, suc, ◌+◌, ◌≤◌, ◌<◌, ◌≡◌, Bool, true, false, List, Option, Some, None, length}
use Rattle.basics.specs.Text.{Text, same}
use Rattle.basics.specs.Lists.{all}
use Rattle.book.specs.Book.{Book}
use Rattle.book_test.specs.Promise.{Promise}
use Rattle.question_lists.specs.Questions.{questions_of, question_at, is_inside, stack_for}
use Rattle.smt_engines.specs.SmtEngines.{CMD_CHECK_SAT}
use Rattle.command_lines.specs.Lines.{line_at}
use Rattle.live_lines.specs.LiveLines.{script_most}
use Rattle.script_checks.specs.ScriptChecks.{checks, is_foreign}
use Rattle.level_lines.specs.AsOften.{same_levels}
use Rattle.level_lines.specs.LevelLines.{stack_of}
use Rattle.level_lines.specs.Bytes.{stack_bytes}
use Rattle.own_levels.specs.OwnLevels.{check_bytes}

-- questions of a tested book, and a script that is not too long
pub record Taken (b : Book) (numbers : List ℕ) (script : Text) : Type 0 where
  pub promise : Promise b
  pub inside : all (questions_of numbers) (is_inside b) ≡ true
  pub short : length script ≤ script_most

-- and the script is of our commands, with as many check-sats
pub record Comparable (b : Book) (numbers : List ℕ) (script : Text) : Type 0 where
  pub taken : Taken b numbers script
  pub ours : is_foreign script ≡ false
  pub even : length (checks script) ≡ length (questions_of numbers)

-- at a line of the script, with n live lines and k check-sats before it: the bounds that its step needs
pub record Before (b : Book) (numbers : List ℕ) (script : Text) (starts : List ℕ) (n at k : ℕ) : Type 0 where
  pub promise : Promise b
  pub inside : all (questions_of numbers) (is_inside b) ≡ true
  pub held : n ≤ length starts
  pub few : stack_bytes (stack_of script starts n) ≤ at
  pub counted : k ≤ script_most
  pub asked : same (line_at script at) CMD_CHECK_SAT ≡ true → (k < length (questions_of numbers)) × (at + check_bytes ≤ script_most)

-- behind a line: so many check-sats agree; none where the line is one that differs
unfoldable pub stepped : (check agrees : Bool) → (k : ℕ) → Option ℕ
stepped false agrees k = Some k
stepped true true k = Some (suc k)
stepped true false k = None

unfoldable pub step_at : Book → (numbers : List ℕ) → Text → (starts : List ℕ) → (n at k : ℕ) → Option ℕ
step_at b numbers script starts n at k =
    stepped (same (line_at script at) CMD_CHECK_SAT) (same_levels (stack_of script starts n) (stack_for b (question_at (questions_of numbers) k))) k

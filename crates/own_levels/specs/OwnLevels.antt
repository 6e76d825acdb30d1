-- Our own text of a question, and the levels that it leaves.
use Rattle.std.specs.Prelude.{ℕ, suc, ◌+◌, ◌≤◌, ◌<◌, ◌≡◌, Bool, true, ◌&&◌, List, leb, length}
use Rattle.basics.specs.Text.{Text}
use Rattle.basics.specs.Lists.{all}
use Rattle.book.specs.Book.{Book, terms, contexts, size}
use Rattle.book_test.specs.Promise.{Promise}
use Rattle.smt_engines.specs.Reader.{cut, live, read}
use Rattle.live_lines.specs.LiveLines.{script_most, least_line, is_live}
use Rattle.level_lines.specs.LevelLines.{stack_of}
use Rattle.level_lines.specs.Bytes.{stack_bytes}

-- `(check-sat)` and its end
abbrev pub check_bytes : ℕ
check_bytes = 12

-- a question of a tested book; and the live lines of a script before its check-sat at `at`, which the first n starts name
pub record Compared (b : Book) (node goal : ℕ) (script : Text) (at : ℕ) (starts : List ℕ) (n : ℕ) : Type 0 where
  pub promise : Promise b
  pub inside : node ≤ size b contexts
  pub asked : goal < size b terms
  pub held : n ≤ length starts
  pub few : stack_bytes (stack_of script starts n) ≤ at
  pub room : at + check_bytes ≤ script_most

-- a line that stays, and is long enough for its place among the starts
unfoldable pub is_kept : Text → Bool
is_kept line = is_live line && leb least_line (suc (length line))

-- a text as ours before its check-sat: every line pushes or joins
pub record OwnText (own : Text) : Type 0 where
  pub kept : all (cut own) is_kept ≡ true
  pub short : length own ≤ script_most

-- the first n starts name all lines of a text
pub record Started (own : Text) (starts : List ℕ) (n : ℕ) : Type 0 where
  pub held : n ≤ length starts
  pub levels : read own ≡ live (stack_of own starts n)

-- The live lines of a script, in place: where each of them starts, pushes and joined lines in order.
use Rattle.std.specs.Prelude.{ℕ, zero, suc, ◌*◌, ◌≤◌, ◌≡◌, Bool, true, false, Option, Some, None, List, [], map, length, get_or, take, if◌then◌else◌}
use Rattle.basics.specs.Text.{Text, same}
use Rattle.basics.specs.Lists.{all}
use Rattle.smt_engines.specs.SmtEngines.{CMD_PUSH}
use Rattle.smt_engines.specs.Reader.{Kind, pushes, pops, asks, joins, kind, Stack, first, live, hear, hear_all}
use Rattle.command_lines.specs.Lines.{line_at, line_end}

-- the longest script that is taken
abbrev pub script_most : ℕ
script_most = 65536

-- a live line has as many bytes, with its end, or more
abbrev pub least_line : ℕ
least_line = 9

-- as many live lines as such a script can have, and one
abbrev pub places : ℕ
places = 7282

unfoldable pub lines_at : Text → List ℕ → List Text
lines_at s starts = map (line_at s) starts

unfoldable pub stays : Kind → Bool
stays pushes = true
stays pops = false
stays asks = false
stays joins = true

-- to the reader it pushes or joins
unfoldable pub is_live : Text → Bool
is_live line = stays (kind line)

-- the first n starts name the lines that leave a stack, heard from one empty level; the script is read up to a place
pub record Lives (s : Text) (starts : List ℕ) (n at : ℕ) (st : Stack) : Type 0 where
  pub heard : hear_all (live (first [])) (lines_at s (take n starts)) ≡ live st
  pub lines : all (lines_at s (take n starts)) is_live ≡ true
  pub held : n ≤ length starts
  pub few : n * least_line ≤ at

-- live line k is a push
abbrev pub push_at : Text → List ℕ → ℕ → Bool
push_at s starts k = same (line_at s (get_or starts k 0)) CMD_PUSH

-- how many lines are before the last push, of the first n
unfoldable pub last_push : Text → List ℕ → ℕ → ℕ
last_push s starts zero = zero
last_push s starts (suc k) = if push_at s starts k then k else last_push s starts k

-- which of the first n lines is the last push
unfoldable pub push_place : Text → List ℕ → ℕ → Option ℕ
push_place s starts zero = None
push_place s starts (suc k) = if push_at s starts k then Some k else push_place s starts k

-- the line at a place is heard: the stack that the starts leave is the reader's
pub record Heard (s : Text) (at : ℕ) (starts later : List ℕ) (n m : ℕ) : Type 0 where
  pub lives : (st su : Stack) → Lives s starts n at st → hear (live st) (line_at s at) ≡ live su → Lives s later m (suc (line_end s at)) su

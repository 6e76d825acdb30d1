-- A foreign script: whether every line is a command of ours, and the live levels at each check-sat.
use Rattle.std.specs.Prelude.{ℕ, Bool, true, false, not, ◌||◌, List, [], ◌∷◌, ◌++◌, Option, Some, None, length, drop}
use Rattle.basics.specs.Text.{Text, same}
use Rattle.basics.specs.Lists.{all}
use Rattle.smt_engines.specs.SmtEngines.{CMD_CHECK_SAT}
use Rattle.smt_engines.specs.Reader.{cut, Stack, first, Reader, live, lost, hear, hear_all, read}
use Rattle.command_lines.specs.CommandLines.{is_command, ended}

unfoldable pub is_lost : Reader → Bool
is_lost (live st) = false
is_lost lost = true

unfoldable pub noted : (check : Bool) → Reader → List Stack
noted true (live st) = st ∷ []
noted true lost = []
noted false r = []

unfoldable pub checks_from : Reader → List Text → List Stack
checks_from r [] = []
checks_from r (line ∷ ls) = noted (same line CMD_CHECK_SAT) r ++ checks_from (hear r line) ls

unfoldable pub checks : Text → List Stack
checks script = checks_from (live (first [])) (cut script)

-- refusal 26
unfoldable pub is_foreign : Text → Bool
is_foreign script = not (ended script) || not (all (cut script) is_command) || is_lost (read script)

-- the same from a place on, with a stack
unfoldable pub foreign_from : Text → ℕ → Stack → Bool
foreign_from script at st = not (ended (drop at script)) || not (all (cut (drop at script)) is_command) || is_lost (hear_all (live st) (cut (drop at script)))

unfoldable pub answered : (foreign : Bool) → ℕ → Option ℕ
answered true n = None
answered false n = Some n

-- how many check-sats there are, or that a line is none of ours
unfoldable pub check_count : Text → Option ℕ
check_count script = answered (is_foreign script) (length (checks script))

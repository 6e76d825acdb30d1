-- How many bytes the commands of levels take as lines.
use Rattle.std.specs.Prelude.{ℕ, suc, ◌+◌, List, [], ◌∷◌, length}
use Rattle.basics.specs.Text.{Text}
use Rattle.smt_engines.specs.SmtEngines.{CMD_PUSH}
use Rattle.smt_engines.specs.Reader.{Stack, first, over}

-- each with its end
unfoldable pub total : List Text → ℕ
total [] = 0
total (x ∷ xs) = suc (length x) + total xs

-- with a push for each level over the first
unfoldable pub stack_bytes : Stack → ℕ
stack_bytes (first l) = total l
stack_bytes (over l st) = total (CMD_PUSH ∷ l) + stack_bytes st

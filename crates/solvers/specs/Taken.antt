-- What the host takes of a text buffer: as many bytes as the answer says.
use Rattle.std.specs.Prelude.{ℕ, List, [], take}
use Rattle.basics.specs.Text.{Text}
use Rattle.basics.specs.Outcome.{Outcome, refused, accepted}
use Rattle.solvers.specs.Left.{Values, written, proved, unproved}

unfoldable pub text_length : Values → ℕ
text_length (written n) = n
text_length (proved n) = n
text_length (unproved n m) = n

-- what the host sends to the solver
unfoldable pub taken : Outcome Values → (buffer : List ℕ) → Text
taken (refused k) buffer = []
taken (accepted v) buffer = take (text_length v) buffer

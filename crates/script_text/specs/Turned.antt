-- What the code of a turn reads, and leaves in its buffers and in the session, against the definition.
use Rattle.std.specs.Prelude.{ℕ, ◌+◌, ◌≤◌, ◌≡◌, Bool, true, false, List, ◌++◌, length, take}
use Rattle.basics.specs.Outcome.{Outcome, refused, accepted}
use Rattle.basics.specs.Buffer.{scratch_least}
use Rattle.basics.specs.Text.{Text}
use Rattle.book.specs.Book.{Book}
use Rattle.solvers.specs.declared.Answer.{Answer}
use Rattle.solvers.specs.declared.Answer.TheVariants as answer
use Rattle.solvers.specs.declared.Session.{Session}
use Rattle.solvers.specs.Left.{Values, session_after}
use Rattle.solvers.specs.Taken.{text_length}
use Rattle.script_text.specs.declared.answers.Turn.{Turn}
use Rattle.script_text.specs.declared.reading.Call.{Call}
use Rattle.script_text.specs.declared.reading.Call.TheVariants as call
use Rattle.script_text.specs.Script.{text_size, call_size, refused_line, Shape, moving, asking, stopping, told, reply, Printed}

-- the call that the code has read
unfoldable pub wants : Call → Shape
wants (call.Move node) = moving node
wants (call.Ask node term) = asking node term
wants call.Stop = stopping

-- the buffers of the program
pub record Desk (scratch text : List ℕ) : Type 0 where
  pub scratch_length : length scratch ≡ scratch_least
  pub text-length : length text ≡ text_size

-- the first n bytes of the buffer are the text
pub record Shows (t : Text) (n : ℕ) (buffer : List ℕ) : Type 0 where
  pub shown : take n buffer ≡ t
  pub fits : n ≤ length buffer

-- a refusal is written as a line; an accepted call's text stands there already
unfoldable pub Tells : Outcome Values → (n : ℕ) (buffer buffer' : List ℕ) → Type 0
Tells (refused k) n buffer buffer' = Shows (refused_line k) n buffer'
Tells (accepted v) n buffer buffer' = (n ≡ text_length v) × (buffer' ≡ buffer)

-- how long an accepted call's text is
abbrev pub length_told : Answer → ℕ
length_told (answer.Written n) = n
length_told (answer.Proved n) = n
length_told (answer.Unproved n m) = n

unfoldable pub is_refused : Outcome Values → Bool
is_refused (refused k) = true
is_refused (accepted v) = false

-- r is the turn, and s the session after it
pub record Turned (p : Printed) (r : Turn) (s : Session) (text closing : List ℕ) : Type 0 where
  pub printed : take r.written text ++ take r.closed closing ≡ p.text
  pub text_fits : r.written ≤ length text
  pub closing_fits : r.closed ≤ length closing
  pub session : s ≡ p.session
  pub more : r.more ≡ p.more

-- the reply in the session s to an ask that has written n bytes, and the session s' after it
pub record Closes (b : Book) (s : Session) (n : ℕ) (r : Turn) (s' : Session) (closing : List ℕ) : Type 0 where
  pub written : r.written ≡ n
  pub closes : Shows (told (reply b s)) r.closed closing
  pub session : s' ≡ session_after (reply b s) s
  pub more : r.more ≡ true

-- the place of the next call; the end of the input where the program stops
unfoldable pub next_place : (more : Bool) (at end : ℕ) → ℕ
next_place true at end = at + call_size
next_place false at end = end

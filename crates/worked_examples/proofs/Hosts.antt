-- What the host lends to a call, and what it finds afterwards.
use Prim.Native.Nat.{ℕ, ◌-◌}
use mathlib.Core.List.{List, [], ◌∷◌, ◌++◌, map}
use lib.ListN.{length, replicate, set}
use Rattle.basics.specs.Text.{Text}
use Rattle.basics.specs.Outcome.{refused, accepted}
use Rattle.basics.specs.Buffer.{scratch_least}
use Rattle.book.specs.Book.{Book}
use Rattle.book_test.specs.BookTest.{BookTested}
use Rattle.solver_expr.specs.Print.{Printed}
use Rattle.rsolver.specs.LevelState.{level_count}
use Rattle.solvers.specs.declared.Session.{Session}
use Rattle.solvers.specs.Calls.{Host, Call}
use Rattle.solvers.specs.Left.{Left, written, proved, unproved}
use Rattle.stack_rule.specs.Events.{calls, Trace, run}

-- the least scratch, not zero before the call and zero after it
unfoldable pub dirty : List ℕ
dirty = replicate scratch_least 0x55

unfoldable pub clean : List ℕ
clean = replicate scratch_least 0

-- a buffer, full of a byte that no text here has
unfoldable pub blank : ℕ → List ℕ
blank room = replicate room 0xAA

-- a text written from byte 0 of such a buffer, and nothing behind it touched
unfoldable pub filled : (room : ℕ) → Text → List ℕ
filled room text = text ++ blank (room - length text)

unfoldable pub host : (room reason_room : ℕ) → Host
host room reason_room = record { scratch = dirty; text = blank room; reason = blank reason_room }

-- a printing call, in a buffer with so much room: its text, or its refusal
unfoldable pub shows : (room : ℕ) → Text → Printed
shows room text = record { answer = accepted (length text); text = filled room text; scratch = clean }

unfoldable pub hides : (room : ℕ) → ℕ → Printed
hides room n = record { answer = refused n; text = blank room; scratch = clean }

-- a session's call, in buffers with so much room: the session that it leaves and its text, or its refusal
unfoldable pub writes : (room reason_room : ℕ) → Session → Text → Left
writes room reason_room s text =
    record {
      answer = accepted (written (length text));
      session = s;
      text = filled room text;
      reason = blank reason_room;
      scratch = clean;
    }

unfoldable pub proves : (room reason_room : ℕ) → Session → Text → Left
proves room reason_room s text =
    record {
      answer = accepted (proved (length text));
      session = s;
      text = filled room text;
      reason = blank reason_room;
      scratch = clean;
    }

unfoldable pub fails : (room reason_room : ℕ) → Session → Text → (reason : Text) → Left
fails room reason_room s text reason =
    record {
      answer = accepted (unproved (length text) (length reason));
      session = s;
      text = filled room text;
      reason = filled reason_room reason;
      scratch = clean;
    }

unfoldable pub refuses : (room reason_room : ℕ) → Session → ℕ → Left
refuses room reason_room s n =
    record { answer = refused n; session = s; text = blank room; reason = blank reason_room; scratch = clean }

-- a session's levels: the places that have one, and their levels
unfoldable pub levels : List (ℕ × ℕ) → List ℕ
levels [] = replicate level_count 0
levels (l ∷ ls) = set (levels ls) l.0 l.1

-- levels below 256 as the wide image has them, the low byte first
unfoldable pub pairs : List ℕ → List ℕ
pairs [] = []
pairs (l ∷ ls) = l ∷ 0 ∷ pairs ls

-- a list of calls from a fresh session, on a book that does not grow
unfoldable pub ran : Book → List Call → Trace
ran b cs = run b (map calls cs)

-- what a row of a table shows: a book test, a print or a trace, a session's call, or the texts of a list of calls
pub data Seen : Type 0 where
  test : BookTested → Seen
  print : Printed → Seen
  call : Left → Seen
  texts : Text → Seen

unfoldable pub hosts : Unit {0}
unfolding dirty clean blank filled host shows hides writes proves fails refuses levels pairs ran
hosts = tt

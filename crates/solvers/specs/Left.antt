-- THE CALLS move, ask, reply and model, whole: the answer, the session, and what every buffer holds afterwards.
use Rattle.std.specs.Prelude.{ℕ, List, length, Result, Ok, Err}
use Rattle.std.proofs.Math.Option.{Option, none, some}
use Rattle.basics.specs.Text.{Text}
use Rattle.basics.specs.Outcome.{Outcome, refused, accepted, map_outcome}
use Rattle.basics.specs.Buffer.{buffer_after, scratch_after}
use Rattle.book.specs.Refusal.{number}
use Rattle.book.specs.declared.Refusal.{Refusal}
use Rattle.book.specs.Book.{Book}
use Rattle.solvers.specs.declared.Answer as code
use Rattle.solvers.specs.declared.Answer.TheVariants as answer
use Rattle.solvers.specs.declared.Session.{Session}
use Rattle.solvers.specs.Session.{Written, ProofResult, Proved, Unproved, text_of}
use Rattle.solvers.specs.Calls.{Host, reason_of, Call, host_of, call}

-- the values of an answer: the text's length, and with a reason the reason's too
pub data Values : Type 0 where
  written proved : ℕ → Values
  unproved : ℕ → ℕ → Values

-- the number and values of each answer
unfoldable pub answer_value : Result code.Answer Refusal → Outcome Values
answer_value (Ok (answer.Written n)) = accepted (written n)
answer_value (Ok (answer.Proved n)) = accepted (proved n)
answer_value (Ok (answer.Unproved n m)) = accepted (unproved n m)
answer_value (Err r) = refused (number r)

unfoldable pub values_by : Option ProofResult → (text : ℕ) → Values
values_by none text = written text
values_by (some Proved) text = proved text
values_by (some (Unproved reason)) text = unproved text (length reason)

unfoldable pub values : Written → Values
values w = values_by w.result (length (text_of w))

unfoldable pub reason : Written → Text
reason w = reason_of w.result

pub record Left : Type 0 where
  pub answer : Outcome Values
  pub session : Session
  pub text : List ℕ
  pub reason : List ℕ
  pub scratch : List ℕ

-- a refused call returns the session as received
unfoldable pub session_after : Outcome Written → Session → Session
session_after (refused n) s = s
session_after (accepted w) s = w.session

unfoldable pub left : Outcome Written → Session → Host → Left
left o s h =
    record {
      answer = map_outcome values o;
      session = session_after o s;
      text = buffer_after o text_of h.text;
      reason = buffer_after o reason h.reason;
      scratch = scratch_after h.scratch;
    }

unfoldable pub called : Book → Session → Call → Left
called b s c = left (call b s c) s (host_of c)

-- What the code of a call returns and leaves, against the definitions.
use Rattle.std.specs.Prelude.{ℕ, ◌≡◌, List, Result, Ok, Err, Option, Some, None}
use Rattle.std.specs.Borrow.{Bor}
use Rattle.std.proofs.Math.Option as maybe
use Rattle.basics.specs.Text.{Text}
use Rattle.basics.specs.Outcome.{Outcome, refused, accepted, map_outcome}
use Rattle.basics.specs.Buffer.{buffer_after}
use Rattle.book.specs.Refusal.{number}
use Rattle.book.specs.declared.Refusal.{Refusal}
use Rattle.solvers.specs.declared.Called.{Called}
use Rattle.solvers.specs.declared.Session.{Session}
use Rattle.solvers.specs.Session.{Written, text_of}
use Rattle.solvers.specs.Calls.{Host}
use Rattle.solvers.specs.Left.{answer_value, values, reason, Left, session_after}

-- what the host lends to a call
abbrev pub lent : (scratch text reason : List ℕ) → Host
lent scratch text reason = record { scratch = scratch; text = text; reason = reason }

-- THE CALLS: answer, session, text, reason and scratch are the definition's
pub record Returned (l : Left) (r : Called) (text reason scratch : List ℕ) : Type 0 where
  pub answer : answer_value r.answer ≡ l.answer
  pub session : r.session ≡ l.session
  pub text' : text ≡ l.text
  pub reason' : reason ≡ l.reason
  pub scratch'' : scratch ≡ l.scratch

-- behind the book test: what an outcome gives
pub record Given (o : Outcome Written) (s : Session) (r : Called) (t t' e e' : List ℕ) : Type 0 where
  pub answer : answer_value r.answer ≡ map_outcome values o
  pub session : r.session ≡ session_after o s
  pub text : t' ≡ buffer_after o text_of t
  pub reason : e' ≡ buffer_after o reason e

-- what a result of the code says
unfoldable pub outcome_of : {A : Type 0} → Result A Refusal → Outcome A
outcome_of (Ok a) = accepted a
outcome_of (Err why) = refused (number why)

-- the text behind a reference, where there is one
unfoldable pub lent_text : Option (Bor Text) → maybe.Option Text
lent_text None = maybe.none
lent_text (Some t) = maybe.some t.now

-- a check's reply, or the error of one that failed
unfoldable pub heard : Result (Bor Text) (Bor Text) → Text
heard (Ok reply) = reply.now
heard (Err error) = error.now

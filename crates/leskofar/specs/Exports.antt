-- How an outcome is told to C, and what C's flags mean.
use Rattle.std.specs.Prelude.{ℕ, Bool, not, List, eqb, length, if◌then◌else◌}
use Rattle.std.proofs.Math.Option.{Option, none, some}
use Rattle.basics.specs.Outcome.{Outcome, refused, accepted}
use Rattle.solvers.specs.Left.{Values, written, proved, unproved}
use Rattle.solvers.specs.Image.{image_size}
use Rattle.book_writer.specs.Writing.{Numbers}
use Rattle.audit.specs.Audit.{Verdict, agrees, differs_at}
use Rattle.leskofar.specs.declared.audit_call.AuditAnswered.{AuditAnswered}
use Rattle.leskofar.specs.declared.node_calls.NodesAnswered.{NodesAnswered}
use Rattle.leskofar.specs.declared.print_calls.Told.{Told}
use Rattle.leskofar.specs.declared.session_calls.Answered.{Answered}
use Rattle.leskofar.specs.declared.writer_calls.AppendAnswered.{AppendAnswered}

-- 0, or the number of the refusal
unfoldable pub refusal_of : {A : Type 0} → Outcome A → ℕ
refusal_of (refused n) = n
refusal_of (accepted a) = 0

-- the same with the text's length, which is 0 where there is none
unfoldable pub told : Outcome ℕ → Told
told (refused n) = record { refusal = n; length = 0 }
told (accepted n) = record { refusal = 0; length = n }

-- the same of the test of a list of nodes, with what it leads to and the position, counted from 0, of the first that fails
unfoldable pub nodes_answered : Outcome (Option ℕ) → NodesAnswered
nodes_answered (refused n) = record { refusal = n; result = 0; position = 0 }
nodes_answered (accepted none) = record { refusal = 0; result = 0; position = 0 }
nodes_answered (accepted (some position)) = record { refusal = 0; result = 1; position = position }

-- the same of an audit, with the first check-sat that differs, counted from 1; 0 where none does
unfoldable pub audit_answered : Outcome Verdict → AuditAnswered
audit_answered (refused n) = record { refusal = n; differs = 0 }
audit_answered (accepted agrees) = record { refusal = 0; differs = 0 }
audit_answered (accepted (differs_at k)) = record { refusal = 0; differs = k }

-- a flag is any number, 0 or not 0
abbrev pub flag : ℕ → Bool
flag n = not (eqb n 0)

-- the same of a session's call, with what it gives and the lengths of text and reason
unfoldable pub answered : Outcome Values → Answered
answered (refused n) = record { refusal = n; result = 0; text = 0; reason = 0 }
answered (accepted (written n)) = record { refusal = 0; result = 0; text = n; reason = 0 }
answered (accepted (proved n)) = record { refusal = 0; result = 1; text = n; reason = 0 }
answered (accepted (unproved n m)) = record { refusal = 0; result = 2; text = n; reason = m }

-- the same of a call of the writer, with the new record's number and the new book's length
unfoldable pub appended : Outcome Numbers → AppendAnswered
appended (refused n) = record { refusal = n; number = 0; length = 0 }
appended (accepted x) = record { refusal = 0; number = x.number; length = x.length }

-- bytes that cannot hold an image are no session's
unfoldable pub fresh_refusal : List ℕ → ℕ
fresh_refusal image = if eqb (length image) image_size then 0 else 20

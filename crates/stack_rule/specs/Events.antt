-- A list of events from a fresh session: calls, and calls of the writer between them, in any order, also while a reply or model is owed.
use Rattle.std.specs.Prelude.{ℕ, List, [], ◌∷◌, ◌++◌}
use Rattle.basics.specs.Text.{Text}
use Rattle.basics.specs.Outcome.{Outcome, refused, accepted}
use Rattle.book.specs.Book.{Book}
use Rattle.book_writer.specs.Writing.{Lent, write, newest}
use Rattle.solvers.specs.declared.Owed.{Owed}
use Rattle.solvers.specs.declared.Owed.TheVariants.{Nothing, Reply, Model}
use Rattle.solvers.specs.declared.Session.{Session}
use Rattle.solvers.specs.Session.{Written, text_of, fresh_session}
use Rattle.solvers.specs.Calls.{Host, Call, move_to, ask_for, call}
use Rattle.solvers.specs.Rule.{Present, present, next}

pub data Event : Type 0 where
  calls : Call → Event
  writes : Lent → Event

pub record Trace : Type 0 where
  pub book : Book  -- the newest
  pub now : Session
  pub text : Text  -- the accepted calls' texts, in order
  pub due : Present

unfoldable pub after : Trace → Call → Outcome Written → Trace
after t c (refused k) = t
after t c (accepted w) = record { book = t.book; now = w.session; text = t.text ++ text_of w; due = next t.due c }

-- a call gets the newest book and the session that the last call returned or left. A growth touches no session; a refused one changes
-- nothing
unfoldable pub happens : Trace → Event → Trace
happens t (calls c) = after t c (call t.book t.now c)
happens t (writes x) = record { book = newest t.book (write t.book x); now = t.now; text = t.text; due = t.due }

unfoldable pub run_from : Trace → List Event → Trace
run_from t [] = t
run_from t (e ∷ es) = run_from (happens t e) es

unfoldable pub start : Book → Trace
start b = record { book = b; now = fresh_session; text = []; due = present 0 0 Nothing }

unfoldable pub run : Book → List Event → Trace
run b es = run_from (start b) es

-- the call that brings a fresh session straight to the present
unfoldable pub straight_to : Owed → Host → ℕ → ℕ → Call
straight_to Nothing h n t = move_to h n
straight_to Reply h n t = ask_for h n t
straight_to Model h n t = ask_for h n t

unfoldable pub straight : Host → Present → Call
straight h w = straight_to w.owed h w.node w.goal

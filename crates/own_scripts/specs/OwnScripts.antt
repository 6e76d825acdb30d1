-- What our own writer makes for its questions is accepted where no check refuses it, for every book and every list of events. Proved in
-- proofs/OwnScripts.antt: own-scripts.
use Rattle.std.specs.Prelude.{ℕ, ◌≡◌, List, [], ◌∷◌, ◌++◌}
use Rattle.basics.specs.Outcome.{Outcome, refused, accepted}
use Rattle.book.specs.Book.{Book}
use Rattle.solvers.specs.Session.{Written}
use Rattle.solvers.specs.Calls.{Call, move_to, ask_for, reply_with, model_with, call}
use Rattle.stack_rule.specs.Events.{Event, calls, writes, Trace, happens, run, start}
use Rattle.question_lists.specs.Questions.{Question, numbers_of}
use Rattle.audit.specs.Audit.{Verdict, agrees, audited}

-- the questions of a list of events are its accepted asks, in order
unfoldable pub asked_by : Call → List Question
asked_by (move_to h n) = []
asked_by (ask_for h n t) = record { node = n; goal = t } ∷ []
asked_by (reply_with h ok r) = []
asked_by (model_with h r m) = []

unfoldable pub asked_if : Call → Outcome Written → List Question
asked_if c (refused k) = []
asked_if c (accepted w) = asked_by c

unfoldable pub asked_in : Trace → Event → List Question
asked_in t (calls c) = asked_if c (call t.book t.now c)
asked_in t (writes x) = []

unfoldable pub asked_from : Trace → List Event → List Question
asked_from t [] = []
asked_from t (e ∷ es) = asked_in t e ++ asked_from (happens t e) es

unfoldable pub asked : Book → List Event → List Question
asked b es = asked_from (start b) es

-- audited on the newest book: the book may grow between the calls, as in the stack rule
abbrev pub own_audited : (scratch : ℕ) → Book → List Event → Outcome Verdict
own_audited scratch b es = audited scratch (run b es).book (numbers_of (asked b es)) (run b es).text

-- What can still refuse it: 1 to 6 and 28 (the scratch, the book, a script that is too long), 25, and 26 where an operator's name makes a line foreign.
pub record OwnScripts (b : Book) (es : List Event) : Type 0 where
  pub accepts : (scratch : ℕ) (v : Verdict) → own_audited scratch b es ≡ accepted v → v ≡ agrees
  pub never7 : (scratch : ℕ) → ¬ (own_audited scratch b es ≡ refused 7)
  pub never9 : (scratch : ℕ) → ¬ (own_audited scratch b es ≡ refused 9)
  pub never27 : (scratch : ℕ) → ¬ (own_audited scratch b es ≡ refused 27)

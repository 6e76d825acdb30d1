-- The calls reply and model behind the book test.
use Rattle.std.specs.Prelude.{Bool, not, ◌∷◌, ◌++◌}
use Rattle.std.proofs.Math.Option.{Option, none, some}
use Rattle.basics.specs.Text.{Text, newline}
use Rattle.basics.specs.Outcome.{Outcome, refuse, ◌>>◌}
use Rattle.book.specs.Book.{Book}
use Rattle.book.specs.Decode.{program}
use Rattle.solvers.specs.declared.Owed.TheVariants.{Reply, Model}
use Rattle.solvers.specs.declared.Session.{Session}
use Rattle.solvers.specs.Session.{Written, is_unsat, give_reply, give_model}
use Rattle.solvers.specs.Calls.{owes, is_session, Host, fitting}

-- why a goal is not proved, as give_model has it
unfoldable pub reason_text : Text → Option Text → Text
reason_text reply none = reply
reason_text reply (some model) = reply ++ (newline ∷ model)

unfoldable pub reply_in : Book → Session → Host → Bool → Text → Outcome Written
reply_in b s h ok reply = do
  refuse 20 (not (is_session (program b) s))
  refuse 22 (not (owes s.owed Reply))
  fitting h (give_reply s ok reply)

-- refusals 8 and 10
unfoldable pub model_owed : Session → Host → Text → Option Text → Outcome Written
model_owed s h reply model = do
  refuse 8 (is_unsat reply)
  fitting h (give_model s reply model)

unfoldable pub model_in : Book → Session → Host → Text → Option Text → Outcome Written
model_in b s h reply model = do
  refuse 20 (not (is_session (program b) s))
  refuse 23 (not (owes s.owed Model))
  model_owed s h reply model

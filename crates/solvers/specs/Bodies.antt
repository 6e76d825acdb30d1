-- An accepted call, done by the methods of the Dafny classes on a solver state that is kept from call to call.
use Rattle.std.specs.Prelude.{Bool, true, false}
use Rattle.book.specs.Book.{Book}
use Rattle.book.specs.Decode.{term, program}
use Rattle.rsolver.specs.Step.{Step, ◌⨟◌}
use Rattle.rsolver.specs.Methods.{Methods}
use Rattle.rsolver.specs.REngine.{set_context, ask_goal, ask_model, close_goal}
use Rattle.solvers.specs.Session.{is_unsat}
use Rattle.solvers.specs.Calls.{Call, move_to, ask_for, reply_with, model_with}

module _ {S : Type 0} (M : Methods S) (b : Book) where
  -- what Solvers.dfy's Prove does when the check answers
  unfoldable pub on_reply : (unsat : Bool) → Step S
  on_reply true = close_goal M
  on_reply false = ask_model M

  -- SetContext; SetContext and Prove up to the check; what Prove does behind it
  unfoldable pub do_call : Call → Step S
  do_call (move_to h node) = set_context M (program b) node
  do_call (ask_for h node goal) = set_context M (program b) node ⨟ ask_goal M (program b) node (term b goal)
  do_call (reply_with h false error) = close_goal M
  do_call (reply_with h true reply) = on_reply (is_unsat reply)
  do_call (model_with h reply model) = close_goal M

-- The calls by the book alone. A session that is not refused with 20 is the book's, so what it has declared need not be mentioned.
-- Proved equal to the bodies' form, for every book, session and call, in proofs/ByBook.antt: contracts may cite either.
use Rattle.std.specs.Prelude.{ℕ, Bool, not, ◌||◌, List, ◌++◌, leb, ltb, length}
use Rattle.std.proofs.Math.Option.{none}
use Rattle.basics.specs.Outcome.{Outcome, refuse, ◌>>◌}
use Rattle.book.specs.Book.{Book, terms, contexts, size}
use Rattle.book.specs.Program.{path}
use Rattle.book.specs.Decode.{term, program}
use Rattle.book_test.specs.BookTest.{ready}
use Rattle.solvers.specs.declared.Owed.TheVariants.{Nothing, Reply}
use Rattle.solvers.specs.declared.Session.{Session}
use Rattle.solvers.specs.Session.{Written}
use Rattle.solvers.specs.Calls.{owes, is_session, Host, fitting, Call, move_to, ask_for, reply_with, model_with, call}
use Rattle.solvers.specs.Rule.{standing, goal_state, move_commands, question_commands, present, session_at}

unfoldable pub move_by_book : Book → Session → Host → (node : ℕ) → Outcome Written
move_by_book b s h node = do
  ready (length h.scratch) b
  refuse 7 (ltb (size b contexts) node)
  let p = program b
  refuse 20 (not (is_session p s))
  refuse 21 (not (owes s.owed Nothing))
  refuse 9 (standing p (path p node)).missing
  fitting h (record { commands = move_commands p s.node node; session = session_at b (present node 0 Nothing); result = none })

unfoldable pub ask_by_book : Book → Session → Host → (node goal : ℕ) → Outcome Written
ask_by_book b s h node goal = do
  ready (length h.scratch) b
  refuse 7 (ltb (size b contexts) node || leb (size b terms) goal)
  let p = program b
  refuse 20 (not (is_session p s))
  refuse 21 (not (owes s.owed Nothing))
  refuse 9 (goal_state p node (term b goal)).missing
  fitting h (record {
    commands = move_commands p s.node node ++ question_commands p node (term b goal);
    session = session_at b (present node goal Reply);
    result = none;
  })

-- reply and model mention the session's own fields only
unfoldable pub call_by_book : Book → Session → Call → Outcome Written
call_by_book b s (move_to h node) = move_by_book b s h node
call_by_book b s (ask_for h node goal) = ask_by_book b s h node goal
call_by_book b s (reply_with h ok reply) = call b s (reply_with h ok reply)
call_by_book b s (model_with h reply model) = call b s (model_with h reply model)

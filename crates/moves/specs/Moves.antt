-- The calls move and ask behind the book test, by the book alone.
use Rattle.std.specs.Prelude.{ℕ, ◌+◌, ◌≤◌, ◌<◌, min, ◌≡◌, true, not, ◌||◌, List, ◌++◌, leb, ltb, length}
use Rattle.std.proofs.Math.Option.{none}
use Rattle.basics.specs.Outcome.{Outcome, refuse, ◌>>◌}
use Rattle.basics.specs.Buffer.{overlay}
use Rattle.basics.specs.Write.{MOST}
use Rattle.book.specs.Book.{Book, terms, contexts, size}
use Rattle.book.specs.Program.{path}
use Rattle.book.specs.Decode.{term, program}
use Rattle.book_test.specs.Promise.{Promise}
use Rattle.smt_engines.specs.Command.{Command, script}
use Rattle.rsolver.specs.LevelState.{LevelState}
use Rattle.levels.specs.declared.Progress.{Progress}
use Rattle.solvers.specs.declared.Owed.TheVariants.{Nothing, Reply}
use Rattle.solvers.specs.declared.Session.{Session}
use Rattle.solvers.specs.Session.{Written}
use Rattle.solvers.specs.Calls.{owes, is_session, Host, fitting}
use Rattle.solvers.specs.Rule.{standing, goal_state, move_commands, question_commands, present, session_at}

-- refusals 9 and 10, from a session at node `from`
unfoldable pub move_known : Book → (from : ℕ) → Host → (node : ℕ) → Outcome Written
move_known b from h node = do
  refuse 9 (standing (program b) (path (program b) node)).missing
  fitting h (record { commands = move_commands (program b) from node; session = session_at b (present node 0 Nothing); result = none })

unfoldable pub move_in : Book → Session → Host → (node : ℕ) → Outcome Written
move_in b s h node = do
  refuse 7 (ltb (size b contexts) node)
  refuse 20 (not (is_session (program b) s))
  refuse 21 (not (owes s.owed Nothing))
  move_known b s.node h node

unfoldable pub ask_commands : Book → (from node goal : ℕ) → List Command
ask_commands b from node goal = move_commands (program b) from node ++ question_commands (program b) node (term b goal)

unfoldable pub ask_known : Book → (from : ℕ) → Host → (node goal : ℕ) → Outcome Written
ask_known b from h node goal = do
  refuse 9 (goal_state (program b) node (term b goal)).missing
  fitting h (record {
    commands = ask_commands b from node goal;
    session = session_at b (present node goal Reply);
    result = none;
  })

unfoldable pub ask_in : Book → Session → Host → (node goal : ℕ) → Outcome Written
ask_in b s h node goal = do
  refuse 7 (ltb (size b contexts) node || leb (size b terms) goal)
  refuse 20 (not (is_session (program b) s))
  refuse 21 (not (owes s.owed Nothing))
  ask_known b s.node h node goal

-- a session of the book that owes nothing, and a node of it
pub record Mover (b : Book) (s : Session) (node : ℕ) : Type 0 where
  pub promise : Promise b
  pub known : is_session (program b) s ≡ true
  pub free : s.owed ≡ Nothing
  pub here : node ≤ size b contexts

pub record Asker (b : Book) (s : Session) (node goal : ℕ) : Type 0 where
  pub promise : Promise b
  pub known : is_session (program b) s ≡ true
  pub free : s.owed ≡ Nothing
  pub here : node ≤ size b contexts
  pub term : goal < size b terms

-- the text of the commands, measured from place 0 on, and what is missing in the state behind them
pub record Measured (cs : List Command) (s : LevelState) (r : Progress) : Type 0 where
  pub missing : r.missing ≡ s.missing
  pub counted : r.at ≡ min (0 + length (script cs)) MOST

-- the text written over the buffer's front, and the session
pub record Arrived (cs : List Command) (s r : Session) (t t' : List ℕ) : Type 0 where
  pub is : r ≡ s
  pub text : t' ≡ overlay (script cs) t

-- THE STACK RULE (demand 3): what holds of every book, that is, of every list of bytes, and of every list of events: calls, and calls of
-- the writer that let the book grow between them. Every field speaks of the newest book.
-- Its words are defined in smt_engines/specs/Reader (the assertion stack), in solvers/specs/Rule (what the book alone gives) and in
-- Events (a list of events). Proved in proofs/Theorem.antt: stack-rule, seen. No statement has a hypothesis.
use Rattle.std.specs.Prelude.{ℕ, suc, ◌+◌, ◌≡◌, false, List, [], ◌∷◌, length}
use Rattle.basics.specs.Outcome.{refused, accepted}
use Rattle.book.specs.Book.{Book}
use Rattle.book.specs.Program.{path, depth}
use Rattle.book.specs.Decode.{term, program}
use Rattle.smt_engines.specs.Command.{script}
use Rattle.smt_engines.specs.Reader.{live, read, height}
use Rattle.rsolver.specs.Step.{Step}
use Rattle.rsolver.specs.SolverState.{SolverState, Valid}
use Rattle.solvers.specs.declared.Owed.TheVariants.{Nothing}
use Rattle.solvers.specs.Session.{Written, text_of}
use Rattle.solvers.specs.Calls.{Host, Enough, Call, move_to, call}
use Rattle.solvers.specs.Image.{write_image}
use Rattle.solvers.specs.Rule.{standing, goal_state, question_levels, open_questions, Present, node_levels, must_live, session_at, said}
use Rattle.stack_rule.specs.Events.{Event, calls, Trace, run, straight}
use Rattle.stack_rule.specs.HostRun.{host_run}
use Rattle.stack_rule.specs.Bodies.{do_all, do_all_or}

-- no axiom without a term was looked up on the way to the present node, nor, while a question is open, for its goal
pub record Complete (b : Book) (w : Present) : Type 0 where
  pub node : (standing (program b) (path (program b) w.node)).missing ≡ false
  pub goal : ¬ (w.owed ≡ Nothing) → (goal_state (program b) w.node (term b w.goal)).missing ≡ false

-- two lists of events that leave the same: the live levels, and the session but for its question
pub record Same (t u : Trace) : Type 0 where
  pub live : read t.text ≡ read u.text
  pub node : t.now.node ≡ u.now.node
  pub levels : t.now.levels ≡ u.now.levels

-- the rule, of what a list of events has left
pub record RuleAt (t : Trace) : Type 0 where
  -- all session text so far leaves live, at each level, exactly the commands that the book gives for the present node and question
  pub reads : read t.text ≡ live (must_live t.book t.due)
  -- that many levels: the node's depth and one (the bodies' stack.Length() + 1), and two more while a reply or model is owed
  pub height :
      height (must_live t.book t.due) ≡ question_levels t.due.owed + suc (depth (program t.book) t.due.node)
  -- the node's own levels are exactly what a fresh session, given scratch and buffer enough and moved straight there, leaves
  pub moved :
      (room : ℕ)
      × ((h : Host) → Enough room h
      → read (run t.book (calls (move_to h t.due.node) ∷ [])).text ≡ live (node_levels t.book t.due.node))
  -- and all of them what one leaves that is moved there and, while a reply or model is owed, asked the goal
  pub fresh : (room : ℕ) × ((h : Host) → Enough room h → Same t (run t.book (calls (straight h t.due) ∷ [])))
  -- the text of an accepted call. Of a move, also the one in an ask: the pops up to the deepest node that both paths share,
  -- then for each node below it on the new path, downward, a push and the node's commands
  pub texts :
      (c : Call) (w : Written) → call t.book t.now c ≡ accepted w → text_of w ≡ script (said t.book t.due c)
  -- the session is the one that a fresh session has there, and 20 never comes
  pub session : t.now ≡ session_at t.book t.due
  pub never20 : (c : Call) → ¬ (call t.book t.now c ≡ refused 20)
  -- nothing that the book gives there is cut short by a missing axiom
  pub complete : Complete t.book t.due

abbrev pub StackRule : Book → List Event → Type 0
StackRule b es = RuleAt (run b es)

-- ---- THE SAME LIST OF EVENTS, SEEN FROM TWO OTHER SIDES
pub record Seen (b : Book) (es : List Event) : Type 0 where
  -- the host holds the newest book and the session's image, and takes of each buffer as many bytes as the answer says
  pub book : (host_run b es).book ≡ (run b es).book
  pub image : (host_run b es).image ≡ write_image (run b es).now
  pub sent : (host_run b es).text ≡ (run b es).text
  -- the Dafny bodies, on one SolverState with its sets and their copies, kept from call to call, send the same text (demand 2)
  pub bodies : script (do_all b es).sent ≡ (run b es).text
  -- their stack has an item for each node of the path, and one more while a question is open: the Push of REngine.Prove
  pub stack :
      length (do_all b es).stack ≡ open_questions (run b es).due.owed + depth (program (run b es).book) (run b es).due.node
  -- Valid(): the solver has one level more than their stack; and another while a question is open, for they are within SolverState.Prove
  pub valid : Valid (open_questions (run b es).due.owed) (do_all b es)
  -- Pop's `requires stack.Cons?`: whatever a Pop of an empty stack did, the bodies would do the same, so there is none
  pub pops : (wrong : Step SolverState) → do_all_or wrong b es ≡ do_all b es
  -- `expect axiom in axiomMap` has never failed
  pub expects : (do_all b es).missing ≡ false

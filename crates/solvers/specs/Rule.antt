-- What the book alone gives for a node and a question, and what the accepted calls alone give for the present.
-- A path is written from the node up to the root, the root left out.
use Rattle.std.specs.Prelude.{ℕ, ◌-◌, Bool, true, false, List, [], ◌∷◌, ◌++◌, reverse, replicate, take}
use Rattle.book.specs.RExpr.{RExpr}
use Rattle.book.specs.Book.{Book}
use Rattle.book.specs.Program.{Program, node_at, path, depth, shared}
use Rattle.book.specs.Decode.{term, program}
use Rattle.smt_engines.specs.Command.{Command, Push, Pop, CheckSat, GetModel}
use Rattle.rsolver.specs.Step.{Step, ◌⨟◌}
use Rattle.rsolver.specs.LevelState.{LevelState, levelled, fresh, push, sent_by}
use Rattle.rsolver.specs.REngine.{assume, assume_not, declare_new_symbols, enter}
use Rattle.solvers.specs.declared.Owed.{Owed}
use Rattle.solvers.specs.declared.Owed.TheVariants.{Nothing, Reply, Model}
use Rattle.solvers.specs.declared.Session.{Session}
use Rattle.solvers.specs.Session.{session, is_unsat}
use Rattle.solvers.specs.Calls.{Call, move_to, ask_for, reply_with, model_with}
use Rattle.smt_engines.specs.Reader.{Stack, first, over, lines}

-- ---- WHAT THE BOOK ALONE GIVES
module _ (p : Program) where
  -- a fresh session's state, moved down a path
  unfoldable pub standing : List ℕ → LevelState
  standing [] = fresh
  standing (n ∷ ns) = enter (levelled p) p n (standing ns)

  -- a node's commands: what DeclareNewSymbols sends after the levels before, and its assertion
  unfoldable pub settle : ℕ → Step LevelState
  settle n = declare_new_symbols (levelled p) p (node_at p n).expr ⨟ assume (levelled p) (node_at p n).expr

  unfoldable pub node_commands : ℕ → List Command
  node_commands n = sent_by (settle n) (push n (standing (path p (node_at p n).parent)))

  -- the levels of a path: an empty one, then for each node its commands
  unfoldable pub levels_of : List ℕ → Stack
  levels_of [] = first []
  levels_of (n ∷ ns) = over (lines (node_commands n)) (levels_of ns)

  -- a goal at a node: the state after its declarations, what they send, and its negated assertion
  unfoldable pub goal_state : ℕ → RExpr → LevelState
  goal_state n e = declare_new_symbols (levelled p) p e (push n (standing (path p n)))

  unfoldable pub goal_commands : ℕ → RExpr → List Command
  goal_commands n e = sent_by (declare_new_symbols (levelled p) p e) (push n (standing (path p n)))

  unfoldable pub denial_commands : ℕ → RExpr → List Command
  denial_commands n e = sent_by (assume_not (levelled p) e) (goal_state n e)

  unfoldable pub goal_levels : ℕ → RExpr → Stack
  goal_levels n e = over (lines (denial_commands n e)) (over (lines (goal_commands n e)) (levels_of (path p n)))

  -- the node's levels; while a reply or model is owed, one more with the goal's declarations and axioms, and another with its negation
  unfoldable pub levels_for : Owed → ℕ → RExpr → Stack
  levels_for Nothing n e = levels_of (path p n)
  levels_for Reply n e = goal_levels n e
  levels_for Model n e = goal_levels n e

  -- ---- THE COMMANDS OF A MOVE: pops up to the deepest node that both paths share, then for each node below it a push and its commands
  unfoldable pub entering : List ℕ → List Command
  entering [] = []
  entering (n ∷ ns) = (Push ∷ node_commands n) ++ entering ns

  unfoldable pub move_commands : (old new : ℕ) → List Command
  move_commands a n =
      let s = shared (path p a) (path p n) in
      replicate (depth p a - s) Pop ++ entering (reverse (take (depth p n - s) (path p n)))

  unfoldable pub question_commands : ℕ → RExpr → List Command
  question_commands n e = (Push ∷ goal_commands n e) ++ (Push ∷ denial_commands n e) ++ (CheckSat ∷ [])

-- the levels that an open question adds
unfoldable pub question_levels : Owed → ℕ
question_levels Nothing = 0
question_levels Reply = 2
question_levels Model = 2

-- how many questions are open
unfoldable pub open_questions : Owed → ℕ
open_questions Nothing = 0
open_questions Reply = 1
open_questions Model = 1

-- ---- WHAT THE ACCEPTED CALLS ALONE GIVE: the present node, the open question's goal or 0, and what is owed
pub record Present : Type 0 where
  pub node : ℕ
  pub goal : ℕ
  pub owed : Owed

unfoldable pub present : ℕ → ℕ → Owed → Present
present n g o = record { node = n; goal = g; owed = o }

unfoldable pub next_reply : (unsat : Bool) → Present → Present
next_reply true w = present w.node 0 Nothing
next_reply false w = present w.node w.goal Model

unfoldable pub next : Present → Call → Present
next w (move_to h n) = present n 0 Nothing
next w (ask_for h n t) = present n t Reply
next w (reply_with h false error) = present w.node 0 Nothing
next w (reply_with h true reply) = next_reply (is_unsat reply) w
next w (model_with h reply model) = present w.node 0 Nothing

-- what must be live then, and the session that a fresh one has there
unfoldable pub node_levels : Book → ℕ → Stack
node_levels b n = levels_of (program b) (path (program b) n)

unfoldable pub must_live : Book → Present → Stack
must_live b w = levels_for (program b) w.owed w.node (term b w.goal)

unfoldable pub session_at : Book → Present → Session
session_at b w = session w.node w.goal w.owed (standing (program b) (path (program b) w.node)).levels

-- the commands of an accepted call, by the book and the present alone
unfoldable pub reply_commands : (unsat : Bool) → List Command
reply_commands true = Pop ∷ Pop ∷ []
reply_commands false = GetModel ∷ []

unfoldable pub said : Book → Present → Call → List Command
said b w (move_to h n) = move_commands (program b) w.node n
said b w (ask_for h n t) = move_commands (program b) w.node n ++ question_commands (program b) n (term b t)
said b w (reply_with h false error) = Pop ∷ Pop ∷ []
said b w (reply_with h true reply) = reply_commands (is_unsat reply)
said b w (model_with h reply model) = Pop ∷ Pop ∷ []

-- A session between calls, and what an accepted move, ask, reply and model send and leave: Solvers.dfy's Prove, taken apart.
use Rattle.std.specs.Prelude.{ℕ, List, [], ◌∷◌, ◌++◌, Bool, true, false}
use Rattle.std.proofs.Math.Option.{Option, none, some}
use Rattle.basics.specs.Text.{Text, ascii, newline, same}
use Rattle.book.specs.RExpr.{RExpr}
use Rattle.book.specs.Program.{Program, path}
use Rattle.smt_engines.specs.Command.{Command, Pop, GetModel, script}
use Rattle.rsolver.specs.LevelState.{LevelState, level_state, levelled, no_levels}
use Rattle.rsolver.specs.REngine.{set_context, ask_goal}
use Rattle.solvers.specs.declared.Owed.{Owed}
use Rattle.solvers.specs.declared.Owed.TheVariants.{Nothing, Reply, Model}
use Rattle.solvers.specs.declared.Session.{Session}

pub data ProofResult : Type 0 where
  Proved : ProofResult
  Unproved : Text → ProofResult

-- what an accepted call sends and leaves; no result while the question is open
pub record Written : Type 0 where
  pub commands : List Command
  pub session : Session
  pub result : Option ProofResult

unfoldable pub text_of : Written → Text
text_of w = script w.commands

abbrev pub session : ℕ → ℕ → Owed → List ℕ → Session
session n g o ls = record { node = n; goal = g; owed = o; levels = ls }

unfoldable pub fresh_session : Session
fresh_session = session 0 0 Nothing no_levels

-- the solver's state where the session stands, with nothing sent yet
unfoldable pub resume : Program → Session → LevelState
resume p s = level_state (path p s.node) s.levels false []

unfoldable pub moved : Program → Session → ℕ → LevelState
moved p s node = set_context (levelled p) p node (resume p s)

unfoldable pub asked : Program → Session → ℕ → RExpr → LevelState
asked p s node e = ask_goal (levelled p) p node e (moved p s node)

unfoldable pub move : Program → Session → ℕ → Written
move p s node =
    let after = moved p s node in
    record { commands = after.sent; session = session node 0 Nothing after.levels; result = none }

-- what the goal declares is not stored
unfoldable pub ask : Program → Session → (node goal : ℕ) → RExpr → Written
ask p s node goal e =
    record { commands = (asked p s node e).sent; session = session node goal Reply (moved p s node).levels; result = none }

-- the question is closed: one pop of Prove in Solvers.dfy, one of Prove in RSolver.dfy
unfoldable pub closed : Session → ProofResult → Written
closed s r = record { commands = Pop ∷ Pop ∷ []; session = session s.node 0 Nothing s.levels; result = some r }

unfoldable pub is_unsat : Text → Bool
is_unsat reply = same reply (ascii "unsat")

unfoldable pub replied : (unsat : Bool) → Session → Written
replied true s = closed s Proved
replied false s = record { commands = GetModel ∷ []; session = session s.node s.goal Model s.levels; result = none }

-- `ok` is false where the check failed, and then the text is the error
unfoldable pub give_reply : Session → (ok : Bool) → Text → Written
give_reply s false error = closed s (Unproved error)
give_reply s true reply = replied (is_unsat reply) s

-- the host gives the reply again
unfoldable pub give_model : Session → (reply : Text) → Option Text → Written
give_model s reply none = closed s (Unproved reply)
give_model s reply (some model) = closed s (Unproved (reply ++ (newline ∷ model)))

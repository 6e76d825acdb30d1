-- What holds of a push and of every command that declares or asserts holds of all that entering nodes and asking a question sends.
use Prim.Native.Nat.{ℕ}
use mathlib.Core.Path.{sym, subst}
use mathlib.Core.List.{List, [], ◌∷◌, ◌++◌}
use Rattle.basics.proofs.All.{All, end, more, all_append, all_weaken}
use Rattle.book.specs.RExpr.{RExpr}
use Rattle.book.specs.Program.{Program}
use Rattle.solver_expr.proofs.Clean.{CleanR}
use Rattle.smt_engines.specs.Command.{Command, Push}
use Rattle.smt_engines.proofs.Commands.{Plain}
use Rattle.rsolver.specs.Step.{Step}
use Rattle.rsolver.specs.LevelState.{LevelState, sent_by}
use Rattle.rsolver.proofs.Declares.{Declares, sent-by, symbols_d, assume_not_d}
use Rattle.solvers.specs.Rule.{node_commands, entering, goal_commands, denial_commands}
use Rattle.solvers.proofs.Good.{Good}
use Rattle.solvers.proofs.Standing.{settled}

module _ (P : Command → Type 0) (push : P Push) (plain : (c : Command) → Plain c → P c) (p : Program) (G : Good p) where
  sent : {f : Step LevelState} → Declares f → (s : LevelState) → All P (sent_by f s)
  sent F s = all_weaken plain (subst (All Plain) (sym (sent-by F s)) (F.plains s))

  pub entering_all : (ns : List ℕ) → All P (entering p ns)
  unfolding entering node_commands
  entering_all [] = end
  entering_all (n ∷ ns) = all_append (more push (sent (settled p G n) _)) (entering_all ns)

  -- up to the check-sat
  pub question_all : (n : ℕ) (e : RExpr) → CleanR e → All P ((Push ∷ goal_commands p n e) ++ (Push ∷ denial_commands p n e))
  unfolding goal_commands denial_commands
  question_all n e h = all_append (more push (sent (symbols_d p G.axioms e h) _)) (more push (sent (assume_not_d p e h) _))

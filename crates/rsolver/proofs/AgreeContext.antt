-- SetContext and Prove take states that agree to states that agree: what the session stores sends what the bodies send.
use Prim.Native.Nat.{ℕ, zero, suc, ◌-◌}
use native.Mathlib.Omega.{arith}
use mathlib.Core.Path.{ap}
use lib.Dec.{ltb}
use lib.ListN.{length}
use Rattle.book.specs.RExpr.{RExpr}
use Rattle.book.specs.Program.{Program, node_at, depth}
use Rattle.book.proofs.Every.{EveryR}
use Rattle.smt_engines.specs.Command.{Push, Pop, CheckSat, GetModel}
use Rattle.rsolver.specs.Step.{◌⨟◌}
use Rattle.rsolver.specs.LevelState.{LevelState, levelled, push, pop}
use Rattle.rsolver.specs.SolverState.{SolverState, bodies, pushed, popped}
use Rattle.rsolver.specs.REngine.{check, ask_model, end_check, enter, adjust_context, pop_times, set_context, ask_goal, close_goal}
use Rattle.rsolver.proofs.Placed.{placed, PlacedProgram}
use Rattle.rsolver.proofs.Agree.{Agree, agree_length, agree_top, agree_push, agree_pop, agree_send}
use Rattle.rsolver.proofs.Related.{Keeps, skip_k, then_k, unless_k, either_k}
use Rattle.rsolver.proofs.AgreeWalk.{Inside, send_k, assume_k, assume_not_k, symbols_k}

module _ {p : Program} (P : PlacedProgram p) where
  -- a push leads inside a level
  push_inside : {s : LevelState} {t : SolverState} → Agree p s t → (node : ℕ) → Inside p (push node s) (pushed node t)
  unfolding push
  push_inside a node = record { agree = agree_push a node; deep = omega arith }

  enter_k : (node : ℕ) → Keeps (Agree p) (enter (levelled p) p node) (enter bodies p node)
  unfolding enter ◌⨟◌
  enter_k node =
      record {
        keeps = λ s t a.
            ((then_k (symbols_k p P (node_at p node).expr (P.node node)) (assume_k p (node_at p node).expr)).keeps _ _ (push_inside a node)).agree;
      }

  pop_k : Keeps (Agree p) pop popped
  pop_k = record { keeps = λ s t a. agree_pop a }

  adjust_k : (d node : ℕ) → Keeps (Agree p) (adjust_context (levelled p) p d node) (adjust_context bodies p d node)
  unfolding adjust_context
  adjust_k zero node = skip_k
  adjust_k (suc d) node =
      let K = then_k (adjust_k d (node_at p node).parent) (enter_k node) in
      either_k _ _ (λ s t a. ap (λ n. ltb n (suc d)) (agree_length a)) K
      (λ s t a e. (unless_k _ _ (λ s t a. agree_top a node) (λ s t a e. (then_k pop_k K).keeps s t a)).keeps s t a)

  pop_times_k : (n : ℕ) → Keeps (Agree p) (pop_times (levelled p) p n) (pop_times bodies p n)
  unfolding pop_times
  pop_times_k zero = record { keeps = λ s t a. a }
  pop_times_k (suc n) = record { keeps = λ s t a. (pop_times_k n).keeps _ _ (agree_pop a) }

  pub agree_set : {s : LevelState} {t : SolverState} → Agree p s t → (node : ℕ)
      → Agree p (set_context (levelled p) p node s) (set_context bodies p node t)
  unfolding set_context
  agree_set {s} {t} a node =
      (adjust_k (depth p node) node).keeps _ _ (rw (agree_length a) ((pop_times_k (length t.stack - depth p node)).keeps s t a))

  pub agree_ask : {s : LevelState} {t : SolverState} (node : ℕ) (e : RExpr) → EveryR (placed p) e → Agree p s t
      → Agree p (ask_goal (levelled p) p node e s) (ask_goal bodies p node e t)
  unfolding ask_goal check ◌⨟◌
  agree_ask node e h a =
      ((then_k (symbols_k p P e h) (then_k (send_k p Push) (then_k (assume_not_k p e) (send_k p CheckSat)))).keeps _ _ (push_inside a node)).agree

module _ {p : Program} {s : LevelState} {t : SolverState} (a : Agree p s t) where
  pub agree_model : Agree p (ask_model (levelled p) s) (ask_model bodies t)
  unfolding ask_model
  agree_model = agree_send a GetModel

  pub agree_close : Agree p (close_goal (levelled p) s) (close_goal bodies t)
  unfolding close_goal end_check ◌⨟◌
  agree_close = agree_pop (agree_send a Pop)

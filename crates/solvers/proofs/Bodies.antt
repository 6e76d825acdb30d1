-- The present and one call, on the state of the Dafny bodies: a call keeps what agrees with the state with levels; how long their stack
-- is; that no axiom is missed; and that no Pop is asked of an empty stack.
use Prim.Native.Nat.{ℕ, ◌<◌, suc, ◌+◌, ◌≤◌}
use mathlib.Core.Path.{◌≡◌, refl, ap, ◌∙◌}
use mathlib.Core.Bool.{Bool, true, false}
use Rattle.basics.specs.Outcome.{accepted}
use Rattle.book.specs.Book.{Book}
use Rattle.book.specs.Program.{path, depth}
use Rattle.book.specs.Decode.{term, program}
use Rattle.book_test.specs.BookTest.{book_test}
use Rattle.book_test.proofs.Promise.{promise}
use Rattle.rsolver.specs.Step.{◌⨟◌, Step}
use Rattle.rsolver.specs.SolverState.{SolverState, bodies, popped_or, bodies_or}
use Rattle.rsolver.specs.LevelState.{LevelState, levelled, push, send}
use Rattle.rsolver.specs.REngine.{assume_not, ask_model}
use Rattle.rsolver.proofs.Agree.{Agree}
use Rattle.rsolver.proofs.AgreeContext.{agree_set, agree_ask, agree_model, agree_close}
use Rattle.solvers.specs.declared.Owed.TheVariants.{Nothing, Reply, Model}
use Rattle.solvers.specs.Session.{is_unsat}
use Rattle.solvers.specs.Calls.{Call, move_to, ask_for, reply_with, model_with}
use Rattle.solvers.specs.Rule.{standing, goal_state, question_levels, open_questions, Present}
use Rattle.solvers.specs.Bodies.{on_reply, do_call}
use Rattle.solvers.proofs.Standing.{standing_stack}
use Rattle.solvers.proofs.Questions.{state_for, GoalIn, Asks, OpenFor, denial_missing}
use Rattle.solvers.proofs.Root.{G, T}
use Rattle.solvers.proofs.PlacedBook.{term_placed, program_placed}
use native.Mathlib.Omega.{arith}
use lib.ListN.{length}
use Rattle.book.specs.RExpr.{RExpr}
use Rattle.solver_expr.proofs.Clean.{CleanR}
use Rattle.rsolver.proofs.Declares.{symbols_d}
use Rattle.rsolver.proofs.Pops.{ask_same, set_same, close_same}
use Rattle.solvers.specs.declared.Owed.{Owed}

module _ (b : Book) (ok : book_test b ≡ accepted tt) where
  replies_same : (x : Bool) {s : LevelState} {u : SolverState} → Agree (program b) s u → Agree (program b) (on_reply (levelled (program b)) b x s) (on_reply bodies b x u)
  unfolding on_reply
  replies_same true a = agree_close a
  replies_same false a = agree_model a

  pub call_agrees : (c : Call) → GoalIn b c → {s : LevelState} {u : SolverState} → Agree (program b) s u → Agree (program b) (do_call (levelled (program b)) b c s) (do_call bodies b c u)
  unfolding do_call ◌⨟◌
  call_agrees (move_to h n) g a = agree_set (program_placed b (promise b ok)) a n
  call_agrees (ask_for h n t) g a =
      let P = program_placed b (promise b ok) in
      agree_ask P n (term b t) (term_placed b (promise b ok) t g) (agree_set P a n)
  call_agrees (reply_with h false r) g a = agree_close a
  call_agrees (reply_with h true r) g a = replies_same (is_unsat r) a
  call_agrees (model_with h r m) g a = agree_close a

  node_length : (n : ℕ) → length (standing (program b) (path (program b) n)).stack ≡ depth (program b) n
  unfolding depth
  node_length n = ap length (standing_stack (program b) (G b ok) (path (program b) n))

  -- the goal's item stands over the node's
  goal_length : (n : ℕ) (e : RExpr) → CleanR e → length (goal_state (program b) n e).stack ≡ suc (depth (program b) n)
  unfolding goal_state push
  goal_length n e h =
      ap length ((symbols_d (program b) (G b ok).axioms e h).stack (push n (standing (program b) (path (program b) n)))) ∙ ap suc (node_length n)

  -- the state with levels at the present: the bodies' agrees with it
  pub stack-for : (w : Present) (o : Owed) → Asks b w o → length (state_for b o w).stack ≡ open_questions o + depth (program b) w.node
  unfolding state_for open_questions assume_not send
  stack-for w Nothing a = omega (arith, node_length w.node)
  stack-for w Reply a = omega (arith, goal_length w.node (term b w.goal) (T b ok w.goal a.0))
  stack-for w Model a = omega (arith, goal_length w.node (term b w.goal) (T b ok w.goal a.0))

  pub missing_for : (w : Present) (o : Owed) → (standing (program b) (path (program b) w.node)).missing ≡ false → Asks b w o
      → (state_for b o w).missing ≡ false
  unfolding state_for
  missing_for w Nothing c a = c
  missing_for w Reply c a = denial_missing (program b) (term b w.goal) (goal_state (program b) w.node (term b w.goal)) ∙ a.1
  missing_for w Model c a = denial_missing (program b) (term b w.goal) (goal_state (program b) w.node (term b w.goal)) ∙ a.1

  -- Pop, whatever it does with an empty stack
  module _ (wrong : Step SolverState) where
    reply_same : (unsat : Bool) (u : SolverState) → 0 < length u.stack → on_reply (bodies_or wrong) b unsat u ≡ on_reply bodies b unsat u
    unfolding on_reply ask_model
    reply_same true u h = close_same wrong u h
    reply_same false u h = refl

    pub call_same : (c : Call) (o : Owed) (u : SolverState) → OpenFor o c → open_questions o ≤ length u.stack
        → do_call (bodies_or wrong) b c u ≡ do_call bodies b c u
    unfolding do_call ◌⨟◌
    call_same (move_to h n) o u q l = set_same wrong (program b) n u
    call_same (ask_for h n t) o u q l = λ i. ask_same bodies (popped_or wrong) (program b) n (term b t) i (set_same wrong (program b) n u i)
    call_same (reply_with h false r) o u q l = close_same wrong u (omega arith)
    call_same (reply_with h true r) o u q l = reply_same (is_unsat r) u (omega arith)
    call_same (model_with h r m) o u q l = close_same wrong u (omega arith)

-- an open question has two levels in the solver, one of them with an item
pub two_levels : (o : Owed) → question_levels o ≡ open_questions o + open_questions o
unfolding question_levels open_questions
two_levels Nothing = refl
two_levels Reply = refl
two_levels Model = refl

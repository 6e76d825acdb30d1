-- The contracts of RSolver.dfy's AdjustContext, SetContext and Prove, of the bodies' state, for every program.
use Prim.Native.Nat.{ℕ, zero, suc, ◌-◌, ◌≤◌, ◌<◌}
use native.Mathlib.Omega.{arith}
use mathlib.Core.Path.{◌≡◌, refl, ap, ◌∙◌}
use mathlib.Core.Bool.{Bool, true, false}
use mathlib.Core.Logic.{◌⊎◌, inl, inr}
use mathlib.Core.List.{List, [], ◌∷◌}
use lib.Dec.{ltb}
use lib.ListN.{length}
use borrow.Author.Tests.{ltb-true, ltb-false}
use Rattle.basics.proofs.All.{All, end, more}
use Rattle.book.specs.RExpr.{RExpr}
use Rattle.book.specs.Program.{Program, node_at, depth}
use Rattle.book.proofs.Paths.{path_step}
use Rattle.smt_engines.specs.Command.{Command}
use Rattle.rsolver.specs.Step.{Step, skip, ◌⨟◌, do_unless, unless, do_either, either}
use Rattle.rsolver.specs.SolverState.{StackItem, SolverState, new_solver, is_top, pushed, pop_to, popped, told, bodies}
use Rattle.rsolver.specs.REngine.{assume, assume_not, check, ask_model, end_check, declare_new_symbols, enter, adjust_context, pop_times, set_context, ask_goal, close_goal}
use Rattle.rsolver.proofs.Contracts.{Same, push_ensures, pop_undoes_push, assume_ensures, memo_top}
use Rattle.rsolver.proofs.ContractsWalk.{symbols_evolve, NoneTwice, Unrepeated, symbols_unrepeated}

-- state.stack.Length() == context.depth == 0 || state.IsTopMemo(context); and the length is the depth besides
pub record Adjusted (d node : ℕ) (t : SolverState) : Type 0 where
  pub stack_length : length t.stack ≡ d
  pub top : ((length t.stack ≡ 0) × (d ≡ 0)) ⊎ (is_top node t.stack ≡ true)

pub pop_length : (s : SolverState) → length (popped s).stack ≡ length s.stack - 1
unfolding popped pop_to
pop_length s = at s.stack
  where
    at : (items : List StackItem) → length (pop_to items s).stack ≡ length items - 1
    at [] = refl
    at (item ∷ items) = omega arith

module _ (p : Program) where
  -- the last three statements of AdjustContext leave one item more
  pub enter_stack : (node : ℕ) (s : SolverState) → (enter bodies p node s).stack ≡ (pushed node s).stack
  unfolding enter ◌⨟◌
  enter_stack node s =
      (assume_ensures (node_at p node).expr (declare_new_symbols bodies p (node_at p node).expr (pushed node s))).stack
      ∙ (symbols_evolve p (node_at p node).expr (pushed node s)).stack

  entered : (d node : ℕ) (s : SolverState) → length s.stack ≡ d → Adjusted (suc d) node (enter bodies p node s)
  entered d node s h =
      let e = enter_stack node s ∙ (push_ensures node s).stack in
      record { stack_length = ap length e ∙ ap suc h; top = inr (ap (is_top node) e ∙ memo_top node _ _ refl) }

  -- the three ways through AdjustContext, of a node that is not the root
  data Way (d node : ℕ) (s : SolverState) : SolverState → Type 0 where
    short : length s.stack ≤ d → Way d node s (enter bodies p node (adjust_context bodies p d (node_at p node).parent s))
    there : suc d ≤ length s.stack → is_top node s.stack ≡ true → Way d node s s
    other : suc d ≤ length s.stack → Way d node s (enter bodies p node (adjust_context bodies p d (node_at p node).parent (popped s)))

  way : (d node : ℕ) (s : SolverState) → Way d node s (adjust_context bodies p (suc d) node s)
  unfolding adjust_context ◌⨟◌ either do_either unless do_unless
  way d node s = at (ltb (length s.stack) (suc d)) refl
    where
      next : Step SolverState
      next t = enter bodies p node (adjust_context bodies p d (node_at p node).parent t)

      full : suc d ≤ length s.stack → (b : Bool) → is_top node s.stack ≡ b → Way d node s (do_unless b (λ t. next (popped t)) s)
      full h true e = there h e
      full h false e = other h

      at : (b : Bool) → ltb (length s.stack) (suc d) ≡ b → Way d node s (do_either b next (unless (λ t. is_top node t.stack) (λ t. next (popped t))) s)
      at true e = let h : length s.stack ≤ d = omega (arith, ltb-true (length s.stack) (suc d) e) in short h
      at false e = full (ltb-false (length s.stack) (suc d) e) (is_top node s.stack) refl

  -- AdjustContext, which is asked of a stack that is no longer than the depth
  pub adjust_ensures : (d node : ℕ) (s : SolverState) → length s.stack ≤ d → Adjusted d node (adjust_context bodies p d node s)
  unfolding adjust_context skip
  adjust_ensures zero node s h = let e : length s.stack ≡ 0 = omega arith in record { stack_length = e; top = inl (e, refl) }
  adjust_ensures (suc d) node s h = at (λ t i. (adjust_ensures d (node_at p node).parent t i).stack_length) (way d node s)
    where
      at : ((t : SolverState) → length t.stack ≤ d → length (adjust_context bodies p d (node_at p node).parent t).stack ≡ d)
          → {t : SolverState} → Way d node s t → Adjusted (suc d) node t
      at ih (short i) = entered d node _ (ih s i)
      at ih (there i e) = record { stack_length = omega arith; top = inr e }
      at ih (other i) = entered d node _ (ih (popped s) (omega (arith, pop_length s)))

  pub pop_times_length : (n : ℕ) (s : SolverState) → length (pop_times bodies p n s).stack ≡ length s.stack - n
  unfolding pop_times
  pop_times_length zero s = omega arith
  pop_times_length (suc n) s = omega (arith, pop_times_length n (popped s), pop_length s)

  -- SetContext: the top memo is the node, or the stack is empty and the depth 0; stack.Length() is the depth
  pub set_ensures : (node : ℕ) (s : SolverState) → Adjusted (depth p node) node (set_context bodies p node s)
  unfolding set_context
  set_ensures node s =
      adjust_ensures (depth p node) node (pop_times bodies p (length s.stack - depth p node) s)
      (omega (arith, pop_times_length (length s.stack - depth p node) s))

  -- RContextNode.Valid: depth == parent.depth + 1, where parents are smaller
  module _ (smaller : (n : ℕ) → (node_at p (suc n)).parent ≤ n) where
    pub depth_node : (n : ℕ) → depth p (suc n) ≡ suc (depth p (node_at p (suc n)).parent)
    unfolding depth
    depth_node n = ap length (path_step p smaller (suc n) (omega arith))

  -- REngine.Prove behind SetContext: when it is closed, all is as it was, whether or not a model was asked for
  ask_stack : (node : ℕ) (e : RExpr) (s : SolverState) → (ask_goal bodies p node e s).stack ≡ (pushed node s).stack
  unfolding ask_goal check ◌⨟◌ told assume_not
  ask_stack node e s = (symbols_evolve p e (pushed node s)).stack

  pub ask_length : (node : ℕ) (e : RExpr) (s : SolverState) → 0 < length (ask_goal bodies p node e s).stack
  unfolding pushed
  ask_length node e s = rw (ask_stack node e s) (omega arith)

  pub prove_ensures : (node : ℕ) (e : RExpr) (s : SolverState) → Same s (close_goal bodies (ask_goal bodies p node e s))
  unfolding close_goal end_check ◌⨟◌ told
  prove_ensures node e s = pop_undoes_push node s _ (ask_stack node e s)

  pub prove_model_ensures : (node : ℕ) (e : RExpr) (s : SolverState) → Same s (close_goal bodies (ask_model bodies (ask_goal bodies p node e s)))
  unfolding close_goal end_check ask_model ◌⨟◌ told
  prove_model_ensures node e s = pop_undoes_push node s _ (ask_stack node e s)

  -- what entering a node and Pop, of a stack that is not empty, keep, SetContext keeps
  module _ (P : SolverState → Type 0) (enters : (node : ℕ) (s : SolverState) → P s → P (enter bodies p node s))
      (pops : (s : SolverState) → 0 < length s.stack → P s → P (popped s)) where
    pub adjust_keeps : (d node : ℕ) (s : SolverState) → P s → P (adjust_context bodies p d node s)
    unfolding adjust_context skip
    adjust_keeps zero node s h = h
    adjust_keeps (suc d) node s h = at (λ t i. enters node _ (adjust_keeps d (node_at p node).parent t i)) (way d node s)
      where
        at : ((t : SolverState) → P t → P (enter bodies p node (adjust_context bodies p d (node_at p node).parent t)))
            → {t : SolverState} → Way d node s t → P t
        at ih (short i) = ih s h
        at ih (there i e) = h
        at ih (other i) = ih (popped s) (pops s (omega arith) h)

    pop_times_keeps : (n : ℕ) (s : SolverState) → n ≤ length s.stack → P s → P (pop_times bodies p n s)
    unfolding pop_times
    pop_times_keeps zero s l h = h
    pop_times_keeps (suc n) s l h = pop_times_keeps n (popped s) (omega (arith, pop_length s)) (pops s (omega arith) h)

    pub set_keeps : (node : ℕ) (s : SolverState) → P s → P (set_context bodies p node s)
    unfolding set_context
    set_keeps node s h = adjust_keeps (depth p node) node _ (pop_times_keeps (length s.stack - depth p node) s (omega arith) h)

-- ---- nothing stands twice
pub new_unrepeated : Unrepeated new_solver
unfolding new_solver
new_unrepeated = record { here = (tt, tt); copies = end }

push_unrepeated : (memo : ℕ) (s : SolverState) → Unrepeated s → Unrepeated (pushed memo s)
unfolding pushed
push_unrepeated memo s u = record { here = u.here; copies = more u.here u.copies }

pop_unrepeated : (s : SolverState) → Unrepeated s → Unrepeated (popped s)
unfolding popped pop_to
pop_unrepeated s u = at s.stack u.copies
  where
    at : (items : List StackItem) → All (λ item. NoneTwice item.decls item.names) items → Unrepeated (pop_to items s)
    at [] end = record { here = (tt, tt); copies = end }
    at (item ∷ items) (more h hs) = record { here = h; copies = hs }

told_unrepeated : (c : Command) (s : SolverState) → Unrepeated s → Unrepeated (told c s)
unfolding told
told_unrepeated c s u = record { here = u.here; copies = u.copies }

module _ (p : Program) where
  enter_unrepeated : (node : ℕ) (s : SolverState) → Unrepeated s → Unrepeated (enter bodies p node s)
  unfolding enter assume ◌⨟◌
  enter_unrepeated node s u = told_unrepeated _ _ (symbols_unrepeated p _ _ (push_unrepeated node s u))

  pub set_unrepeated : (node : ℕ) (s : SolverState) → Unrepeated s → Unrepeated (set_context bodies p node s)
  set_unrepeated node s u = set_keeps p Unrepeated enter_unrepeated (λ t i. pop_unrepeated t) node s u

  pub ask_unrepeated : (node : ℕ) (e : RExpr) (s : SolverState) → Unrepeated s → Unrepeated (ask_goal bodies p node e s)
  unfolding ask_goal check assume_not ◌⨟◌
  ask_unrepeated node e s u =
      told_unrepeated _ _ (told_unrepeated _ _ (told_unrepeated _ _ (symbols_unrepeated p e _ (push_unrepeated node s u))))

pub model_unrepeated : (s : SolverState) → Unrepeated s → Unrepeated (ask_model bodies s)
unfolding ask_model
model_unrepeated s u = told_unrepeated _ s u

pub close_unrepeated : (s : SolverState) → Unrepeated s → Unrepeated (close_goal bodies s)
unfolding close_goal end_check ◌⨟◌
close_unrepeated s u = pop_unrepeated _ (told_unrepeated _ s u)

-- What a book gives for a present that fits it, a book that grew from it gives too.
use Prim.Native.Nat.{ℕ, ◌≤◌, ◌<◌}
use native.Mathlib.Omega.{arith}
use mathlib.Core.Path.{◌≡◌, ap, ap₂, ◌∙◌}
use lib.ListN.{length}
use Rattle.book.specs.RExpr.{RExpr}
use Rattle.book.specs.Book.{Book, terms, contexts, size}
use Rattle.book.specs.Program.{path}
use Rattle.book.specs.Decode.{term, program}
use Rattle.book.proofs.Every.{EveryR}
use Rattle.book.proofs.Terms.{contexts_length}
use Rattle.book_test.proofs.Promise.{promise}
use Rattle.rsolver.specs.LevelState.{LevelState, levelled, send}
use Rattle.rsolver.specs.REngine.{assume_not}
use Rattle.rsolver.proofs.Placed.{placed, PlacedProgram}
use Rattle.rsolver.proofs.Unmarked.{Unmarked}
use Rattle.solvers.specs.declared.Owed.{Owed}
use Rattle.solvers.specs.declared.Owed.TheVariants.{Nothing, Reply, Model}
use Rattle.solvers.specs.declared.Session.{Session}
use Rattle.solvers.specs.Session.{session}
use Rattle.solvers.specs.Rule.{standing, goal_state, levels_of, levels_for, move_commands, question_commands, Present, must_live, session_at}
use Rattle.book_growth.specs.Grows.{Grows}
use Rattle.book_growth.proofs.Order.{terms_grew, contexts_grew}
use Rattle.solvers.proofs.Good.{Good, good}
use Rattle.solvers.proofs.Questions.{Asks, Fits, state_for, state_at}
use Rattle.solvers.proofs.PlacedBook.{term_placed, program_placed}
use Rattle.stack_rule.proofs.GrownRule.{standing_grown, standing_unmarked, goal_state_grown, goal_unmarked, question_commands_grown, asked_levels_grown, node_levels_grown, move_commands_grown}

module _ {b c : Book} (g : Grows b c) where
  G : Good (program b)
  G = good b (promise b g.before)

  P : PlacedProgram (program b)
  P = program_placed b (promise b g.before)

  inside : {n : ℕ} → n ≤ size b contexts → n ≤ length (program b).contexts
  inside i = omega (arith, contexts_length b)

  goal_placed : {t : ℕ} → t < size b terms → EveryR (placed (program b)) (term b t)
  goal_placed {t} l = term_placed b (promise b g.before) t l

  -- ---- a node
  module _ (n : ℕ) (i : n ≤ size b contexts) where
    pub standing_kept : standing (program c) (path (program c) n) ≡ standing (program b) (path (program b) n)
    standing_kept = standing_grown (program b) (program c) g.extends G P n (inside i)

    pub node_levels_kept : levels_of (program c) (path (program c) n) ≡ levels_of (program b) (path (program b) n)
    node_levels_kept = node_levels_grown (program b) (program c) g.extends G P n (inside i)

    pub moves_kept : (a : ℕ) → a ≤ size b contexts → move_commands (program c) a n ≡ move_commands (program b) a n
    moves_kept a j = move_commands_grown (program b) (program c) g.extends G P a n (inside j) (inside i)

    -- ---- a goal there
    module _ (t : ℕ) (l : t < size b terms) where
      pub goal_kept : goal_state (program c) n (term c t) ≡ goal_state (program b) n (term b t)
      goal_kept = ap (goal_state (program c) n) (g.kept t l) ∙ goal_state_grown (program b) (program c) g.extends G P n (inside i) (term b t) (goal_placed l)

      pub questions_kept : question_commands (program c) n (term c t) ≡ question_commands (program b) n (term b t)
      questions_kept = ap (question_commands (program c) n) (g.kept t l) ∙ question_commands_grown (program b) (program c) g.extends G P n (inside i) (term b t) (goal_placed l)

      denied_kept : assume_not (levelled (program c)) (term c t) (goal_state (program c) n (term c t)) ≡ assume_not (levelled (program b)) (term b t) (goal_state (program b) n (term b t))
      unfolding assume_not
      denied_kept = ap₂ {C = LevelState} (λ (e : RExpr) (s : LevelState). assume_not (levelled (program b)) e s) (g.kept t l) goal_kept

      levels_kept : (o : Owed) → levels_for (program c) o n (term c t) ≡ levels_for (program b) o n (term b t)
      levels_kept o = ap (levels_for (program c) o n) (g.kept t l) ∙ asked_levels_grown (program b) (program c) g.extends G P n (inside i) (term b t) (goal_placed l) o

      denied_unmarked : Unmarked (program b) (assume_not (levelled (program b)) (term b t) (goal_state (program b) n (term b t))).levels
      unfolding assume_not send
      denied_unmarked = goal_unmarked (program b) (program c) g.extends G P n (inside i) (term b t) (goal_placed l)

  -- ---- the present
  module _ (w : Present) (f : Fits b w) where
    live_for : (o : Owed) → Asks b w o → levels_for (program c) o w.node (term c w.goal) ≡ levels_for (program b) o w.node (term b w.goal)
    unfolding levels_for
    live_for Nothing a = node_levels_kept w.node f.inside
    live_for Reply a = levels_kept w.node f.inside w.goal a.0 Reply
    live_for Model a = levels_kept w.node f.inside w.goal a.0 Model

    pub live_kept : must_live c w ≡ must_live b w
    unfolding must_live
    live_kept = live_for w.owed f.asks

    pub session_at_kept : session_at c w ≡ session_at b w
    unfolding session_at
    session_at_kept = ap {B = Session} (λ (s : LevelState). session w.node w.goal w.owed s.levels) (standing_kept w.node f.inside)

    asks_for : (o : Owed) → Asks b w o → Asks c w o
    asks_for Nothing a = a
    asks_for Reply a = (omega (arith, a.0, terms_grew g), ap (λ (s : LevelState). s.missing) (goal_kept w.node f.inside w.goal a.0) ∙ a.1)
    asks_for Model a = (omega (arith, a.0, terms_grew g), ap (λ (s : LevelState). s.missing) (goal_kept w.node f.inside w.goal a.0) ∙ a.1)

    pub fits_kept : Fits c w
    fits_kept =
        record {
          inside = omega (arith, f.inside, contexts_grew g);
          clear = ap (λ (s : LevelState). s.missing) (standing_kept w.node f.inside) ∙ f.clear;
          asks = asks_for w.owed f.asks;
        }

    state-for : (o : Owed) → Asks b w o → state_for c o w ≡ state_for b o w
    unfolding state_for
    state-for Nothing a = standing_kept w.node f.inside
    state-for Reply a = denied_kept w.node f.inside w.goal a.0
    state-for Model a = denied_kept w.node f.inside w.goal a.0

    pub state_kept : state_at c w ≡ state_at b w
    unfolding state_at
    state_kept = state-for w.owed f.asks

    unmarked_for : (o : Owed) → Asks b w o → Unmarked (program b) (state_for b o w).levels
    unfolding state_for
    unmarked_for Nothing a = standing_unmarked (program b) (program c) g.extends G P w.node (inside f.inside)
    unmarked_for Reply a = denied_unmarked w.node f.inside w.goal a.0
    unmarked_for Model a = denied_unmarked w.node f.inside w.goal a.0

    pub state_unmarked : Unmarked (program b) (state_at b w).levels
    unfolding state_at
    state_unmarked = unmarked_for w.owed f.asks

-- One session is moved through the questions of a list: as long as none meets an axiom without a term, it stands at the node of the last.
use Prim.Native.Nat.{ℕ, ◌+◌, ◌≤◌, ◌<◌}
use native.Mathlib.Omega.{arith}
use mathlib.Core.Path.{◌≡◌, refl, sym, ap, ◌∙◌}
use mathlib.Core.Bool.{Bool, true, false, not}
use mathlib.Core.List.{List}
use lib.ListN.{length}
use Rattle.basics.specs.Lists.{all, all_below}
use Rattle.basics.proofs.Loops.{all_none, all_more, all_stop, all_done, all_places}
use Rattle.book.specs.Book.{Book, contexts, size}
use Rattle.book.specs.Program.{path, path_up}
use Rattle.book.specs.Decode.{term, program}
use Rattle.book_test.specs.Promise.{Promise}
use Rattle.rsolver.specs.LevelState.{level_count, no_levels, fresh}
use Rattle.levels.specs.declared.Progress.{Progress}
use Rattle.engine.specs.Engine.{state_at, Questioning, Questioned}
use Rattle.solvers.specs.Rule.{standing}
use Rattle.solvers.proofs.Good.{good, term_clean}
use Rattle.solvers.proofs.Enough.{levels_length}
use Rattle.solvers.proofs.Questions.{goal_clear}
use Rattle.question_lists.specs.Questions.{Question, question_at, is_inside, is_complete}
use Rattle.question_lists.proofs.Inside.{node_inside, goal_inside}

module _ (b : Book) (qs : List Question) where
  abbrev complete : ℕ → Bool
  complete i = is_complete b (question_at qs i)

  by_places : all_below (length qs) complete ≡ all qs (is_complete b)
  unfolding question_at
  by_places = all_places qs (is_complete b) _

  -- before question i: at the node of the one before it, or at the root
  pub record Asking (i at : ℕ) (ls : List ℕ) : Type 0 where
    pub few : i ≤ length qs
    pub here : at ≤ size b contexts
    pub levels : ls ≡ (state_at b at).levels
    pub clear : (state_at b at).missing ≡ false
    pub passed : all_below i complete ≡ true

  pub asking_start : {ls : List ℕ} → ls ≡ no_levels → Asking 0 0 ls
  unfolding standing fresh path path_up
  asking_start e = record { few = omega arith; here = omega arith; levels = e; clear = refl; passed = all_none complete }

  pub asking_done : {i at : ℕ} {ls : List ℕ} → Asking i at ls → length qs ≤ i → true ≡ all qs (is_complete b)
  asking_done {i} s l = all_done complete (length qs) i s.passed (omega (arith, s.few)) ∙ by_places

  module _ (P : Promise b) {i at : ℕ} {ls : List ℕ} (s : Asking i at ls) where
    pub asking_wide : level_count ≡ length ls
    asking_wide = sym (ap length s.levels ∙ levels_length (program b) (good b P) (path (program b) at))

    module _ (h : all qs (is_inside b) ≡ true) (l : i < length qs) {n g : ℕ} (node_is : n ≡ (question_at qs i).node) (goal-is : g ≡ (question_at qs i).goal) where
      pub asking_on : Questioning b at n g ls
      asking_on =
          record {
            promise = P;
            from = s.here;
            to = node_inside b qs h l node_is;
            levels = s.levels;
            clear = s.clear;
            goal = goal_inside b qs h l goal-is;
          }

      module _ {ls' o o' : List ℕ} {r : Progress} (q : Questioned b at n g ls' o o' r) where
        told : not r.missing ≡ complete i
        unfolding is_complete
        told = rw (← node_is, ← goal-is, q.missing)

        pub asking_stop : r.missing ≡ true → false ≡ all qs (is_complete b)
        asking_stop e = all_stop complete (length qs) i told (rw e) l ∙ by_places

        pub asking_more : r.missing ≡ false → Asking (i + 1) n ls'
        asking_more e =
            let clean = term_clean b P g (goal_inside b qs h l goal-is) in
            record {
              few = omega arith;
              here = node_inside b qs h l node_is;
              levels = q.levels;
              clear = goal_clear b (good b P) (term_clean b P) n (term b g) clean (sym q.missing ∙ e);
              passed = all_more complete i s.passed told (rw e);
            }

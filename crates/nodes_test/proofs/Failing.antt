-- The first node of a list that fails; and one session that is moved through the list up to it.
use Prim.Native.Nat.{ℕ, zero, suc, ◌+◌, ◌≤◌, ◌<◌}
use native.Mathlib.Omega.{arith}
use native.Mathlib.Decide.{dec_lt}
use mathlib.Core.Path.{◌≡◌, refl, sym, ap, ◌∙◌}
use mathlib.Core.Bool.{true, false}
use mathlib.Core.List.{List, [], ◌∷◌}
use mathlib.Core.Option.{none, some, map}
use lib.ListN.{length, get_or}
use Rattle.book.specs.Book.{Book, contexts, size}
use Rattle.book.specs.Program.{Program, path, path_up}
use Rattle.book.specs.Decode.{program}
use Rattle.book_test.specs.Promise.{Promise}
use Rattle.rsolver.specs.LevelState.{level_count, no_levels, fresh}
use Rattle.levels.specs.declared.Progress.{Progress}
use Rattle.engine.specs.Engine.{state_at, IsState, Standing}
use Rattle.solvers.specs.Rule.{standing}
use Rattle.solvers.proofs.Good.{good}
use Rattle.solvers.proofs.Enough.{levels_length}
use Rattle.std.specs.Prelude.{Some, None}
use Rattle.nodes_test.specs.NodesTest.{could_move, first_failing, position_value}

-- those before place i pass
abbrev pub Passed : Program → List ℕ → ℕ → Type 0
Passed p ns i = (k : ℕ) → k < i → could_move p (get_or ns k 0) ≡ true

module _ (p : Program) where
  pub first-is : (ns : List ℕ) (i : ℕ) → i < length ns → Passed p ns i → could_move p (get_or ns i 0) ≡ false → first_failing p ns ≡ some i
  unfolding first_failing
  first-is [] i l h f = absurd (omega arith)
  first-is (n ∷ ns) zero l h f = rw f
  first-is (n ∷ ns) (suc i) l h f = rw (h 0 (omega arith)) (ap (map suc) (first-is ns i (omega arith) (λ k j. h (suc k) (omega arith)) f))

  pub none_is : (ns : List ℕ) → Passed p ns (length ns) → first_failing p ns ≡ none
  unfolding first_failing
  none_is [] h = refl
  none_is (n ∷ ns) h = rw (h 0 (omega arith)) (ap (map suc) (none_is ns (λ k j. h (suc k) (omega arith))))

-- the session stands at a node of the list, or at the root, and has met nothing that is missing
pub record Moving (b : Book) (ns : List ℕ) (i at : ℕ) (ls : List ℕ) : Type 0 where
  pub few : i ≤ length ns
  pub here : at ≤ size b contexts
  pub levels : ls ≡ (state_at b at).levels
  pub clear : (state_at b at).missing ≡ false
  pub passed : Passed (program b) ns i

module _ (b : Book) (ns : List ℕ) where
  pub moving_start : {ls : List ℕ} → ls ≡ no_levels → Moving b ns 0 0 ls
  unfolding standing fresh path path_up
  moving_start e = record { few = omega arith; here = omega arith; levels = e; clear = refl; passed = λ k l. absurd (omega arith) }

  pub moving_on : Promise b → {i at new : ℕ} {ls : List ℕ} → Moving b ns i at ls → new ≤ size b contexts → Standing b at new ls
  moving_on P m l = record { promise = P; from = m.here; to = l; levels = m.levels; clear = m.clear }

  pub moving_wide : Promise b → {i at : ℕ} {ls : List ℕ} → Moving b ns i at ls → level_count ≡ length ls
  moving_wide P {at = at} m = sym (ap length m.levels ∙ levels_length (program b) (good b P) (path (program b) at))

  module _ {i at new : ℕ} {ls ls' : List ℕ} {r : Progress} (m : Moving b ns i at ls) (is : new ≡ get_or ns i 0) (s : IsState (state_at b new) ls' r) where
    pub moving_more : r.missing ≡ false → i < length ns → new ≤ size b contexts → Moving b ns (i + 1) new ls'
    unfolding could_move
    moving_more h f l =
        let clear : (state_at b new).missing ≡ false = sym s.missing ∙ h in
        record { few = omega arith; here = l; levels = s.levels; clear = clear; passed = λ k j. at_place clear k j (dec_lt k i) }
      where
        at_place : (state_at b new).missing ≡ false → (k : ℕ) → k < i + 1 → Dec (k < i) → could_move (program b) (get_or ns k 0) ≡ true
        at_place clear k j (yes e) = m.passed k e
        at_place clear k j (no e) = let q : k ≡ i = omega arith in rw (q, ← is, clear)

    pub moving_stop : r.missing ≡ true → i < length ns → position_value (Some i) ≡ first_failing (program b) ns
    unfolding could_move position_value
    moving_stop h l = rw (first-is (program b) ns i l m.passed (rw (← is, sym s.missing ∙ h)))

  pub moving_done : {i at : ℕ} {ls : List ℕ} → Moving b ns i at ls → length ns ≤ i → position_value None ≡ first_failing (program b) ns
  unfolding position_value
  moving_done {i} m l = let e : i ≡ length ns = omega (arith, m.few) in rw (none_is (program b) ns (rw e at m.passed))

-- The test of a session, by its first part that fails.
use Prim.Native.Nat.{ℕ, ◌≤◌, ◌<◌}
use native.Mathlib.Omega.{arith}
use mathlib.Core.Path.{◌≡◌, refl, sym, ◌∙◌}
use mathlib.Core.Bool.{Bool, true, false, not, ◌&&◌}
use mathlib.Core.List.{List}
use lib.Dec.{leb}
use borrow.Author.Tests.{lt-leb, le-leb}
use Rattle.basics.specs.Text.{same}
use Rattle.book.specs.Book.{Book, terms, contexts, size}
use Rattle.book.specs.Program.{path, path_up}
use Rattle.book.specs.Decode.{program}
use Rattle.book.proofs.Terms.{contexts_length, literals_length}
use Rattle.book_test.specs.Promise.{Promise}
use Rattle.rsolver.specs.LevelState.{no_levels, fresh}
use Rattle.engine.specs.Engine.{state_at, Standing}
use Rattle.solvers.specs.declared.Session.{Session}
use Rattle.solvers.specs.Calls.{goal_fits, is_session}
use Rattle.solvers.specs.Rule.{standing}
use Rattle.solvers.proofs.Good.{good}
use Rattle.solvers.proofs.Contexts.{set_fresh}

and-false : (x : Bool) → (x && false) ≡ false
and-false true = refl
and-false false = refl

module _ (b : Book) (P : Promise b) (s : Session) where
  -- the test by the book alone
  by_state : is_session (program b) s
      ≡ (leb s.node (size b contexts) && not (state_at b s.node).missing && same s.levels (state_at b s.node).levels && goal_fits s.owed s.goal (size b terms))
  unfolding is_session
  by_state = rw (set_fresh (program b) (good b P) s.node, contexts_length b, literals_length b)

  pub no_node : size b contexts < s.node → false ≡ is_session (program b) s
  no_node h = sym (by_state ∙ rw (lt_leb_false h))
    where
      lt_leb_false : size b contexts < s.node → leb s.node (size b contexts) ≡ false
      lt_leb_false h = lt-leb s.node (size b contexts) h

  pub no_goal : {x : Bool} {n : ℕ} → n ≡ size b terms → x ≡ goal_fits s.owed s.goal n → x ≡ false → false ≡ is_session (program b) s
  no_goal d e f = sym (by_state ∙ rw (← d, sym e ∙ f) (and-false (leb s.node (size b contexts) && not (state_at b s.node).missing && same s.levels (state_at b s.node).levels)))

  pub unreachable : {m : Bool} → m ≡ (state_at b s.node).missing → m ≡ true → false ≡ is_session (program b) s
  unreachable e f = sym (by_state ∙ rw (sym e ∙ f) (ends (leb s.node (size b contexts)) (same s.levels (state_at b s.node).levels) (goal_fits s.owed s.goal (size b terms))))
    where
      ends : (x y z : Bool) → (x && false && y && z) ≡ false
      ends true y z = refl
      ends false y z = refl

  pub levels_tell : {x m r : Bool} {n : ℕ} {ls : List ℕ} → s.node ≤ size b contexts → n ≡ size b terms → x ≡ goal_fits s.owed s.goal n → x ≡ true → m ≡ (state_at b s.node).missing → m ≡ false
      → ls ≡ (state_at b s.node).levels → r ≡ same s.levels ls → r ≡ is_session (program b) s
  levels_tell {r = r} l d e f g h k w = sym (by_state ∙ rw (← d, le-leb s.node (size b contexts) l, sym e ∙ f, sym g ∙ h, sym k, sym w) (ends r))
    where
      ends : (x : Bool) → (x && true) ≡ x
      ends true = refl
      ends false = refl

-- a fresh session stands at the root
pub standing_fresh : (b : Book) → Promise b → (node : ℕ) {ls : List ℕ} → node ≤ size b contexts → ls ≡ no_levels → Standing b 0 node ls
unfolding standing fresh path path_up
standing_fresh b P node h e = record { promise = P; from = zero-le; to = h; levels = e; clear = refl }
  where
    zero-le : 0 ≤ size b contexts
    zero-le = omega arith

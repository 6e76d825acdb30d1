-- What test 20 tells of a session: its levels are those that a book that passed its test gives to its node, so it has an image.
use Prim.Native.Nat.{ℕ, zero, suc, ◌^◌, ◌≤◌, ◌<◌}
use native.Mathlib.Omega.{arith}
use mathlib.Core.Path.{◌≡◌, ap, ◌∙◌}
use mathlib.Core.Bool.{true, not, ◌&&◌}
use mathlib.Core.List.{List}
use lib.Dec.{leb}
use lib.ListN.{length}
use borrow.Author.Tests.{leb-true, eqb-true, ltb-true}
use Rattle.basics.specs.Text.{same}
use Rattle.basics.proofs.All.{All, end, more}
use Rattle.basics.proofs.Bool.{and_both}
use Rattle.basics.proofs.Texts.{same_eq}
use Rattle.book.specs.Book.{Book, terms, contexts, size, depth_most}
use Rattle.book.specs.Program.{path_up, path, depth}
use Rattle.book.specs.Decode.{program}
use Rattle.book.proofs.Terms.{contexts_length, literals_length}
use Rattle.book_test.specs.Promise.{Promise}
use Rattle.rsolver.specs.LevelState.{LevelState, levelled, fresh}
use Rattle.rsolver.specs.REngine.{set_context}
use Rattle.rsolver.proofs.Levels.{Within}
use Rattle.solvers.specs.declared.Owed.{Owed}
use Rattle.solvers.specs.declared.Owed.TheVariants.{Nothing, Reply, Model}
use Rattle.solvers.specs.declared.Session.{Session}
use Rattle.solvers.specs.Calls.{goal_fits, is_session}
use Rattle.solvers.specs.Rule.{standing}
use Rattle.solvers.specs.Image.{no_session}
use Rattle.solvers.proofs.Good.{good}
use Rattle.solvers.proofs.Standing.{standing_within}
use Rattle.solvers.proofs.Contexts.{set_fresh}
use Rattle.solvers.proofs.Enough.{levels_length}
use Rattle.solvers.proofs.LevelBytes.{Small}
use Rattle.solvers.proofs.Image.{Imaged}

pub record Stands (b : Book) (s : Session) : Type 0 where
  pub inside : s.node ≤ size b contexts
  pub goal : goal_fits s.owed s.goal (size b terms) ≡ true
  pub levels : s.levels ≡ (standing (program b) (path (program b) s.node)).levels

goal_small : (o : Owed) (goal n : ℕ) → n ≤ terms.most → goal_fits o goal n ≡ true → goal < 2 ^ 32
unfolding goal_fits
goal_small Nothing goal n l e = omega (arith, eqb-true goal 0 e)
goal_small Reply goal n l e = omega (arith, ltb-true goal n e)
goal_small Model goal n l e = omega (arith, ltb-true goal n e)

pub within_small : {k : ℕ} {ls : List ℕ} → k ≤ depth_most → Within k ls → All Small ls
within_small h end = end
within_small {k} h (more {a = a} l ls) = more {a = a} (omega arith) (within_small {k = k} h ls)

module _ (b : Book) (P : Promise b) where
  depth_within : (n : ℕ) → n ≤ size b contexts → depth (program b) n ≤ depth_most
  unfolding depth path path_up
  depth_within zero h = omega arith
  depth_within (suc k) h = P.shallow k (omega arith)

  module _ (s : Session) (e : is_session (program b) s ≡ true) where
    pub stands : Stands b s
    unfolding is_session
    stands =
        let p = program b in
        let at = set_context (levelled p) p s.node fresh in
        let here = leb s.node (length p.contexts) in
        let r1 = and_both ((here && not at.missing) && same s.levels at.levels) (goal_fits s.owed s.goal (length p.literals)) e in
        let r2 = and_both (here && not at.missing) (same s.levels at.levels) r1.0 in
        let r3 = and_both here (not at.missing) r2.0 in
        record {
          inside = omega (arith, leb-true s.node (length p.contexts) r3.0, contexts_length b);
          goal = rw (literals_length b) at r1.1;
          levels = same_eq s.levels at.levels r2.1 ∙ ap (λ (x : LevelState). x.levels) (set_fresh p (good b P) s.node);
        }

    -- no record is declared deeper than the node
    pub within_depth : Within (depth (program b) s.node) s.levels
    unfolding depth
    within_depth = rw stands.levels (standing_within (program b) (good b P) (path (program b) s.node))

    pub imaged : Imaged s
    imaged =
        record {
          node = omega (arith, stands.inside, P.contexts_laid.few);
          goal = goal_small s.owed s.goal (size b terms) P.terms_laid.few stands.goal;
          levels = ap length stands.levels ∙ levels_length (program b) (good b P) (path (program b) s.node);
          small = within_small (depth_within s.node stands.inside) within_depth;
        }

  -- no book has the node of what is no session
  pub none : is_session (program b) no_session ≡ true → ⊥
  unfolding no_session
  none e = omega (arith, (stands no_session e).inside, P.contexts_laid.few)

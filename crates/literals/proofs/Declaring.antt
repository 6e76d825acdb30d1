-- The step that declares a literal, from what its parts did.
use Prim.Native.Nat.{ℕ, ◌+◌, ◌<◌}
use mathlib.Core.Path.{◌≡◌}
use mathlib.Core.Bool.{true, false}
use mathlib.Core.List.{List, [], ◌∷◌}
use lib.ListN.{length, drop}
use Rattle.basics.specs.Write.{MOST, WroteAt}
use Rattle.book.specs.Book.{Book, terms, field}
use Rattle.book.specs.Decode.{literal_of, program}
use Rattle.book.specs.RExpr.{is_tag}
use Rattle.solver_expr.specs.Lowering.{literal_name}
use Rattle.smt_engines.specs.Command.{DeclareLiteral, script}
use Rattle.rsolver.specs.LevelState.{literal_places, literal_place, join_at, name_in}
use Rattle.rsolver.specs.REngine.{declare_literal}
use Rattle.levels.specs.declared.Progress.{Progress}
use Rattle.levels.specs.Did.{Did}
use Rattle.levels.specs.Types.{type_step}
use Rattle.levels.proofs.Steps.{did_then, did_told, did_unless, did_not}
use Rattle.literals.specs.Literals.{new_literal_step, literal_step}

module _ (b : Book) where
  pub literal_new : (t : ℕ) {n typ : ℕ} {ls ls1 ls2 : List ℕ} {so s1 r : Progress} {o o1 o2 : List ℕ} → length o < MOST + 1
      → typ ≡ field b terms t 2 → Did (type_step b typ) n ls ls1 so o o1 s1 → ls2 ≡ join_at ls1 (literal_places + t) n
      → WroteAt (script (DeclareLiteral (literal_of b t) ∷ [])) s1.at o1 o2 r.at → r.missing ≡ s1.missing → Did (new_literal_step b t) n ls ls2 so o o2 r
  unfolding new_literal_step type_step declare_literal literal_of literal_place
  literal_new t short e d j w m = did_then short (rw e at d) (did_told _ _ j w m)

  pub literal_tag : (t n : ℕ) (ls : List ℕ) (so : Progress) (o : List ℕ) → is_tag (literal_of b t) ≡ true → so.at < MOST + 1 → Did (literal_step b t) n ls ls so o o so
  unfolding literal_step
  literal_tag t n ls so o e h = did_not _ _ n o (λ st sent. rw e) h

  pub literal_old : (t n : ℕ) (ls : List ℕ) (so : Progress) (o : List ℕ) → is_tag (literal_of b t) ≡ false → name_in (literal_name (literal_of b t)) (program b).literals (drop literal_places ls) ≡ true → so.at < MOST + 1 → Did (literal_step b t) n ls ls so o o so
  unfolding literal_step
  literal_old t n ls so o e f h = did_not _ _ n o (λ st sent. rw (e, f)) h

  pub literal_sent : (t : ℕ) {n : ℕ} {ls ls1 : List ℕ} {so r : Progress} {o o1 : List ℕ} → is_tag (literal_of b t) ≡ false → name_in (literal_name (literal_of b t)) (program b).literals (drop literal_places ls) ≡ false
      → Did (new_literal_step b t) n ls ls1 so o o1 r → Did (literal_step b t) n ls ls1 so o o1 r
  unfolding literal_step
  literal_sent t e f d = did_unless _ _ (λ st sent. rw (e, f)) d

-- SetContext: pops up to the deepest node that both paths share, levels cleared at once, and the nodes below it entered.
use Prim.Native.Nat.{ℕ, zero, suc, ◌+◌, ◌-◌, ◌≤◌, ◌<◌}
use native.Mathlib.Omega.{arith}
use native.Mathlib.Numerals.{add-one}
use mathlib.Core.Path.{◌≡◌, refl, sym, ap, ◌∙◌}
use mathlib.Core.Bool.{false}
use mathlib.Core.List.{List, [], ◌∷◌, ◌++◌, reverse}
use lib.ListN.{length, replicate, take, drop}
use Rattle.basics.specs.Write.{MOST, WroteAt}
use Rattle.basics.proofs.Places.{at_none, at_as}
use Rattle.book.specs.Book.{Book, contexts, size}
use Rattle.book.specs.Program.{path, depth, shared}
use Rattle.book.specs.Decode.{program}
use Rattle.book.proofs.Paths.{chain, shared_most, shared_suffix}
use Rattle.book_test.specs.Promise.{Promise}
use Rattle.contexts.specs.Path.{pops_of}
use Rattle.smt_engines.specs.Command.{Pop, script}
use Rattle.rsolver.specs.LevelState.{forget}
use Rattle.levels.specs.declared.Progress.{Progress}
use Rattle.solvers.specs.Rule.{standing, entering, move_commands}
use Rattle.solvers.proofs.Good.{good}
use Rattle.solvers.proofs.Cleared.{cleared_standing}
use Rattle.solvers.proofs.Standing.{clear_above}
use Rattle.engine.specs.Engine.{state_at, Downward, Descended, Reached}
use Rattle.engine.proofs.Entering.{said_then}

-- ---- pops
replicate_more : {A : Type 0} (i : ℕ) (a : A) → replicate (i + 1) a ≡ replicate i a ++ (a ∷ [])
replicate_more {A} i a = ap {B = List A} (λ (k : ℕ). replicate k a) (add-one i) ∙ more i
  where
    more : (i : ℕ) → replicate (suc i) a ≡ replicate i a ++ (a ∷ [])
    more zero = refl
    more (suc i) = ap {B = List A} (λ (l : List A). a ∷ l) (more i)

pub popping_none : (o : List ℕ) → WroteAt (script (replicate 0 Pop)) 0 o o 0
unfolding script
popping_none o = at_none 0 o (omega arith)

pub popping_more : (i : ℕ) {o o1 o2 : List ℕ} {at r : ℕ} → length o < MOST + 1 → WroteAt (script (replicate i Pop)) 0 o o1 at → WroteAt (script (Pop ∷ [])) at o1 o2 r → WroteAt (script (replicate (i + 1) Pop)) 0 o o2 r
popping_more i short p w = at_as (ap script (sym (replicate_more i Pop))) (said_then _ (Pop ∷ []) short p w)

-- ---- the move
module _ {b : Book} (P : Promise b) (old new : ℕ) {count : ℕ} (pops : count ≡ pops_of (program b) old new) where
  x : List ℕ
  x = path (program b) old

  y : List ℕ
  y = path (program b) new

  -- what is known of the numbers
  pub few_pops : count ≤ depth (program b) old
  unfolding pops_of
  few_pops = omega (arith, pops)

  kept : depth (program b) old - count ≡ shared x y
  unfolding pops_of depth x y
  kept = omega (arith, pops, shared_most (path (program b) old) (path (program b) new))

  suffix : (shared x y ≤ length y) × (drop (length x - shared x y) x ≡ drop (length y - shared x y) y)
  unfolding x y
  suffix = shared_suffix (program b) (path (program b) old) (path (program b) new) (chain (program b) (good b P).parents old) (chain (program b) (good b P).parents new)

  pub few_kept : depth (program b) old - count ≤ depth (program b) new
  unfolding depth y
  few_kept = omega (arith, kept, suffix.0)

  count_is : count ≡ length x - shared x y
  unfolding pops_of depth x y
  count_is = pops

  below_is : depth (program b) new - (depth (program b) old - count) ≡ length y - shared x y
  unfolding depth y
  below_is = ap (λ (k : ℕ). length (path (program b) new) - k) kept

  pub downward : {ls ls1 : List ℕ} {below : ℕ} (so : Progress) → new ≤ size b contexts → ls ≡ (state_at b old).levels → (state_at b old).missing ≡ false → ls1 ≡ forget (depth (program b) old - count + 1) ls → below ≡ depth (program b) new - (depth (program b) old - count)
      → so.missing ≡ false → Downward b new below ls1 so
  unfolding x y depth
  downward {ls} {ls1} {below} so to fl clear e f m =
      let G = good b P in
      let k : length x - count ≤ length x = omega arith in
      let up : drop count x ≡ drop below y =
      ap (λ (i : ℕ). drop i x) count_is ∙ suffix.1 ∙ ap (λ (i : ℕ). drop i y) (sym (f ∙ below_is)) in
      let levels : ls1 ≡ (standing (program b) (drop count x)).levels =
      e ∙ ap {B = List ℕ} (λ (i : ℕ). forget i ls) (add-one (length x - count)) ∙ ap (forget (suc (length x - count))) fl ∙ cleared_standing (program b) G count x few_pops in
      record {
        promise = P;
        inside = to;
        few = omega (arith, f);
        state = record {
          levels = levels ∙ ap {B = List ℕ} (λ (ns : List ℕ). (standing (program b) ns).levels) up;
          missing = m ∙ sym (clear_above (program b) G count x clear) ∙ ap (λ (ns : List ℕ). (standing (program b) ns).missing) up;
        };
      }

  pub reached : {ls' : List ℕ} {below : ℕ} {so r : Progress} {o o1 o2 : List ℕ} → length o < MOST + 1 → below ≡ depth (program b) new - (depth (program b) old - count)
      → WroteAt (script (replicate count Pop)) 0 o o1 so.at → Descended b new below ls' so o1 o2 r → Reached b old new ls' o o2 r
  unfolding move_commands x y depth
  reached {ls'} {below} {so} {r} {o} {o1} {o2} short f w d =
      record {
        state = d.state;
        text = at_as (ap script (λ i. replicate (count_is i) Pop ++ entering (program b) (reverse (take ((f ∙ below_is) i) y)))) (said_then (replicate count Pop) _ short w d.text);
      }

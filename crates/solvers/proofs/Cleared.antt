-- Leaving several levels at once gives the levels of the path's node up there.
use Prim.Native.Nat.{ℕ, zero, suc, ◌-◌, ◌≤◌}
use native.Mathlib.Omega.{arith}
use mathlib.Core.Path.{◌≡◌, sym, ap, ◌∙◌}
use mathlib.Core.List.{List, [], ◌∷◌}
use lib.ListN.{length, drop}
use Rattle.book.specs.Program.{Program}
use Rattle.rsolver.specs.LevelState.{forget}
use Rattle.rsolver.proofs.Levels.{forget_grown}
use Rattle.session_levels.proofs.Clearing.{forget_within, forget_forget}
use Rattle.solvers.specs.Rule.{standing}
use Rattle.solvers.proofs.Good.{Good}
use Rattle.solvers.proofs.Standing.{grown_at, standing_within}

module _ (p : Program) (G : Good p) where
  pub cleared_standing : (k : ℕ) (ns : List ℕ) → k ≤ length ns → forget (suc (length ns - k)) (standing p ns).levels ≡ (standing p (drop k ns)).levels
  cleared_standing zero ns h =
      let e : length ns - 0 ≡ length ns = omega arith in
      rw e (forget_within (standing_within p G ns))
  cleared_standing (suc k) [] h = absurd (omega arith)
  cleared_standing (suc k) (n ∷ ns) h =
      let e : suc (length ns) - suc k ≡ length ns - k = omega arith in
      let all = (standing p (n ∷ ns)).levels in
      ap (λ (i : ℕ). forget (suc i) all) e
      ∙ sym (forget_forget (suc (length ns - k)) (suc (length ns)) (omega arith) all)
      ∙ ap (forget (suc (length ns - k))) (forget_grown (grown_at p G n ns) (standing_within p G ns))
      ∙ cleared_standing k ns (omega arith)

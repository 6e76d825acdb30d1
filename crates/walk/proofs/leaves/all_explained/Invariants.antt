use mathlib.Core.Bool.{true}
use mathlib.Core.Path.{◌≡◌}
use Rattle.walk.proofs.Explaining.{Explained}
use Rattle.walk.proofs.leaves.all_explained.Given as goal

abbrev pub invariant-loop-i : goal.invariant-loop-i
invariant-loop-i l = Explained l.book l.start l.i l.levels ≡ true

use Rattle.session_levels.proofs.Clearing.{cleared}
use mathlib.Core.Path.{◌≡◌}
use Prim.Native.Nat.{◌+◌}
use Rattle.session_levels.proofs.clear_above.Given as goal

abbrev pub invariant-loop-level : goal.invariant-loop-level
invariant-loop-level l = l.levels ≡ cleared (l.depth + 1) l.level-index l.initial.levels

use Prim.Native.Nat.{◌-◌}
use mathlib.Core.Path.{◌≡◌}
use lib.ListN.{length}
use Rattle.live_lines.specs.LiveLines.{places}
use Rattle.own_levels.proofs.Starts.{Walk}
use Rattle.own_levels.proofs.own_starts.Given as goal

abbrev pub invariant-loop-at : goal.invariant-loop-at
invariant-loop-at l = Walk l.own l.starts l.n l.at × (length l.starts ≡ places)

abbrev pub decreases-loop-at : goal.decreases-loop-at
decreases-loop-at l = length l.own - l.at

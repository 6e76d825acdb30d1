use Prim.Native.Nat.{◌+◌, ◌-◌, ◌<◌}
use mathlib.Core.Path.{◌≡◌}
use lib.ListN.{length}
use Rattle.basics.proofs.Stepping.{Alike}
use Rattle.basics.proofs.letters.same_long.Given as goal

abbrev pub invariant-loop-i : goal.invariant-loop-i
invariant-loop-i l = (l.last + 8 ≡ length l.a) × (length l.a ≡ length l.b) × (l.i < l.last + 8) × Alike l.a l.b 0 l.i × Alike l.a l.b l.last (l.last + 8)

abbrev pub decreases-loop-i : goal.decreases-loop-i
decreases-loop-i l = l.last + 8 - l.i

use Prim.Native.Nat.{min}
use mathlib.Core.Path.{◌≡◌}
use lib.ListN.{length}
use Rattle.basics.proofs.Writing.{Begun}
use Rattle.basics.proofs.write.put_all.Given as goal

abbrev pub invariant-loop-i : goal.invariant-loop-i
invariant-loop-i l = (l.i-end ≡ min (length l.text) (length l.initial.out)) × Begun l.text l.i l.initial.out l.out × (length l.out ≡ length l.initial.out)

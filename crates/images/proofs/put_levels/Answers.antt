use Prim.Native.Nat.{ℕ}
use mathlib.Core.Path.{refl, ap}
use mathlib.Core.List.{List}
use lib.ListN.{get_or}
use native.Mathlib.Omega.{arith}
use Rattle.images.proofs.LevelLoops.{put_none, put_more, put_all}
use Rattle.images.proofs.put_levels.Goals as goal

pub loop-i-init : goal.loop-i-init
loop-i-init c = put_none _ _ c.requires.1

pub loop-i-preserved : goal.loop-i-preserved
loop-i-preserved c =
    let byte = λ (i : ℕ). ap (λ (l : List ℕ). get_or l i 0) c.to_le_bytes.ensures in
    put_more c.loop-i.invariant (omega arith) (omega (arith, c.requires.0)) refl (byte 0) (byte 1)

pub returns : goal.returns
returns c = put_all c.loop-i.invariant (omega arith) c.requires.0

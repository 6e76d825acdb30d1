-- 64 bits as a number with a sign, and what a local of the type i64 reads back: it holds bits.
use Rattle.std.specs.Prelude.{if◌then◌else◌}
use Prim.Native.Nat.{ℕ, suc, ◌-◌, ◌^◌}
use mathlib.Core.Path.{◌≡◌, refl}
use mathlib.Core.Bool.{Bool, true, false}
use lib.Dec.{ltb}
use lib.IntN.{ℤ, pos, negsuc}
use mir.Syntax.{w64}
use mir.Val.{Fits, to_z, of_z, sel}
use mir.ValLaws.{to_z-of_z, to_z-Fits}
use Rattle.basics.specs.Basics.{int64}

pub bits_are : (bits : ℕ) → to_z w64 bits ≡ int64 bits
unfolding int64
bits_are bits = either (ltb bits (2 ^ 63))
  where
    either : (b : Bool) → sel b (pos bits) (negsuc (2 ^ 64 - suc bits)) ≡ (if b then pos bits else negsuc (2 ^ 64 - suc bits))
    either true = refl
    either false = refl

pub held_bits : (bits : ℕ) → Fits w64 bits → {z : ℤ} → z ≡ int64 bits → to_z w64 (of_z w64 z) ≡ int64 bits
held_bits bits f e = rw e (to_z-of_z w64 (int64 bits) (rw (bits_are bits) at (to_z-Fits w64 bits f)))

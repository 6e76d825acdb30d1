-- Levels of two bytes: what is written is read back, and the bytes that were read are written again.
use Prim.Native.Nat.{ℕ, ◌+◌, ◌-◌, ◌*◌, ◌/◌, ◌%◌, ◌<◌}
use native.Mathlib.Omega.{arith}
use mathlib.Core.Path.{◌≡◌, refl}
use mathlib.Core.List.{List, [], ◌∷◌}
use lib.ListN.{length}
use Rattle.basics.proofs.All.{All, end, more}
use Rattle.solvers.specs.Image.{level_bytes, levels_in}

-- what fits in a byte, and in two
abbrev pub Byte : ℕ → Type 0
Byte x = x < 256

abbrev pub Small : ℕ → Type 0
Small l = l < 65536

pub length_level_bytes : (ls : List ℕ) → length (level_bytes ls) ≡ 2 * length ls
unfolding level_bytes
length_level_bytes [] = refl
length_level_bytes (l ∷ ls) = omega (arith, length_level_bytes ls)

pub length_levels_in : (n : ℕ) (xs : List ℕ) → length xs ≡ 2 * n → length (levels_in xs) ≡ n
unfolding levels_in
length_levels_in n [] e = omega arith
length_levels_in n (a ∷ []) e = absurd (omega arith)
length_levels_in n (a ∷ b ∷ xs) e = omega (arith, length_levels_in (n - 1) xs (omega arith))

two_bytes : (l : ℕ) → Small l → l % 256 + 256 * (l / 256 % 256) ≡ l
two_bytes l h = omega arith

pub levels_back : {ls : List ℕ} → All Small ls → levels_in (level_bytes ls) ≡ ls
unfolding level_bytes levels_in
levels_back end = refl
levels_back (more {a = l} h hs) = λ i. two_bytes l h i ∷ levels_back hs i

low_byte : (a b : ℕ) → Byte a → (a + 256 * b) % 256 ≡ a
low_byte a b h = omega arith

high_byte : (a b : ℕ) → Byte a → Byte b → (a + 256 * b) / 256 % 256 ≡ b
high_byte a b h k = omega arith

pub bytes_back : (n : ℕ) {xs : List ℕ} → length xs ≡ 2 * n → All Byte xs → level_bytes (levels_in xs) ≡ xs
unfolding level_bytes levels_in
bytes_back n e end = refl
bytes_back n e (more h end) = absurd (omega arith)
bytes_back n e (more {a = a} h (more {a = b} k ks)) = λ i. low_byte a b h i ∷ high_byte a b h k i ∷ bytes_back (n - 1) (omega arith) ks i

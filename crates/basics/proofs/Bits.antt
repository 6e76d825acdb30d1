-- Bits of a byte, and sets of numbers by their bits.
use Rattle.std.specs.Prelude.{if◌then◌else◌}
use Prim.Native.Nat.{ℕ, zero, suc, ◌+◌, ◌*◌, ◌^◌, ◌/◌, ◌%◌, ◌<◌}
use native.Mathlib.Nat.{div-one, div-div-eq-div-mul}
use native.Mathlib.Numerals.{unary_clauses}
use native.Mathlib.Omega.{arith}
use mathlib.Core.Path.{◌≡◌, refl, sym, ap, ◌∙◌}
use mathlib.Core.Bool.{Bool, true, false}
use mathlib.Core.List.{List}
use lib.Dec.{eqb, ltb}
use lib.ListN.{length, get_or, set, replicate, length-set}
use lib.Seq.{get_or-set_same, get_or-set_other, set_out}
use borrow.Author.Tests.{eq-eqb, eqb-true, eqb-false, ltb-true, ltb-false}
use Rattle.basics.specs.Bits.{power, has_bit, with_bit, has_number, with_number}

-- what holds of each of a byte's bits
each_bit : (P : ℕ → Type 0) → P 0 → P 1 → P 2 → P 3 → P 4 → P 5 → P 6 → P 7 → (i : ℕ) → i < 8 → P i
each_bit P a b c d e f g h zero l = a
each_bit P a b c d e f g h (suc zero) l = b
each_bit P a b c d e f g h (suc (suc zero)) l = c
each_bit P a b c d e f g h (suc (suc (suc zero))) l = d
each_bit P a b c d e f g h (suc (suc (suc (suc zero)))) l = e
each_bit P a b c d e f g h (suc (suc (suc (suc (suc zero))))) l = f
each_bit P a b c d e f g h (suc (suc (suc (suc (suc (suc zero)))))) l = g
each_bit P a b c d e f g h (suc (suc (suc (suc (suc (suc (suc zero))))))) l = h
each_bit P a b c d e f g h (suc (suc (suc (suc (suc (suc (suc (suc i)))))))) l = absurd (omega arith)

-- ---- a number's bits, one by one from the lowest
bit : ℕ → ℕ → ℕ
bit x zero = x % 2
bit x (suc i) = bit (x / 2) i

twice : (i : ℕ) → 2 ^ suc i ≡ 2 * 2 ^ i
twice i = simp unary_clauses (omega arith)

halved : (i x : ℕ) → (x + 2 ^ suc i) / 2 ≡ x / 2 + 2 ^ i
halved i x = let e : 2 ^ suc i ≡ 2 * 2 ^ i = twice i in omega arith

bit_added : (i x : ℕ) → (bit x i ≡ 1 → ⊥) → bit (x + 2 ^ i) i ≡ 1
unfolding bit
bit_added zero x z = omega (arith, z)
bit_added (suc i) x z = rw (halved i x) (bit_added i (x / 2) z)

bit_other : (i j x : ℕ) → (j ≡ i → ⊥) → (bit x i ≡ 1 → ⊥) → bit (x + 2 ^ i) j ≡ bit x j
unfolding bit
bit_other zero zero x n z = absurd (n refl)
bit_other zero (suc j) x n z = let e : (x + 1) / 2 ≡ x / 2 = omega (arith, z) in rw e
bit_other (suc i) zero x n z = let e : 2 ^ suc i ≡ 2 * 2 ^ i = twice i in omega arith
bit_other (suc i) (suc j) x n z = rw (halved i x) (bit_other i j (x / 2) (λ q. n (ap suc q)) z)

shifted : (i x : ℕ) → x / 2 ^ i % 2 ≡ bit x i
unfolding bit
shifted zero x = ap (λ (y : ℕ). y % 2) (div-one x)
shifted (suc i) x = rw (twice i) (ap (λ (y : ℕ). y % 2) (sym (div-div-eq-div-mul x 2 (2 ^ i))) ∙ shifted i (x / 2))

-- ---- what each bit counts is a power of two: so the code shifts
pub power_two : (i : ℕ) → i < 8 → 2 ^ i ≡ power i
power_two = each_bit (λ i. 2 ^ i ≡ power i) refl refl refl refl refl refl refl refl

pub shifted_one : (i : ℕ) → i < 8 → 1 * 2 ^ i % 2 ^ 8 ≡ power i
shifted_one = each_bit (λ i. 1 * 2 ^ i % 2 ^ 8 ≡ power i) refl refl refl refl refl refl refl refl

bit_at : (i x : ℕ) → i < 8 → x / power i % 2 ≡ bit x i
bit_at i x l = rw (← power_two i l) (shifted i x)

bit_new : (i x : ℕ) → i < 8 → (x / power i % 2 ≡ 1 → ⊥) → (x + power i) / power i % 2 ≡ 1
bit_new i x l z = bit_at i (x + power i) l ∙ rw (← power_two i l) (bit_added i x (λ e. z (bit_at i x l ∙ e)))

bit_kept : (i j x : ℕ) → i < 8 → j < 8 → (j ≡ i → ⊥) → (x / power i % 2 ≡ 1 → ⊥) → (x + power i) / power j % 2 ≡ x / power j % 2
bit_kept i j x l m n z = bit_at j (x + power i) m ∙ rw (← power_two i l) (bit_other i j x n (λ e. z (bit_at i x l ∙ e))) ∙ sym (bit_at j x m)

-- ---- a byte's bits
pub bit_room : (x i : ℕ) → i < 8 → has_bit x i ≡ false → x < 2 ^ 8 → x + power i < 2 ^ 8
unfolding has_bit
bit_room x i l e h =
    each_bit (λ i. (x / power i % 2 ≡ 1 → ⊥) → x + power i < 2 ^ 8)
    (λ z. omega (arith, z)) (λ z. omega (arith, z)) (λ z. omega (arith, z)) (λ z. omega (arith, z)) (λ z. omega (arith, z)) (λ z. omega (arith, z)) (λ z. omega (arith, z)) (λ z. omega (arith, z))
    i l (eqb-false _ _ e)

no_bit : (i : ℕ) → i < 8 → has_bit 0 i ≡ false
unfolding has_bit
no_bit = each_bit (λ i. has_bit 0 i ≡ false) refl refl refl refl refl refl refl refl

pub bit_missing : (x i : ℕ) → has_bit x i ≡ false → x + power i ≡ with_bit x i
unfolding with_bit
bit_missing x i e = rw e

new_bit : (x i : ℕ) → i < 8 → has_bit x i ≡ false → has_bit (x + power i) i ≡ true
unfolding has_bit
new_bit x i l e = eq-eqb _ 1 (bit_new i x l (eqb-false _ _ e))

kept_bit : (x i j : ℕ) → i < 8 → j < 8 → (j ≡ i → ⊥) → has_bit x i ≡ false → has_bit (x + power i) j ≡ has_bit x j
unfolding has_bit
kept_bit x i j l m n e = ap (λ (b : ℕ). eqb b 1) (bit_kept i j x l m n (eqb-false _ _ e))

with_same : (x i : ℕ) → i < 8 → has_bit (with_bit x i) i ≡ true
unfolding with_bit
with_same x i l = by (has_bit x i) refl
  where
    by : (t : Bool) → has_bit x i ≡ t → has_bit (if has_bit x i then x else x + power i) i ≡ true
    by true e = rw e e
    by false e = rw e (new_bit x i l e)

with_other : (x i j : ℕ) → i < 8 → j < 8 → (j ≡ i → ⊥) → has_bit (with_bit x i) j ≡ has_bit x j
unfolding with_bit
with_other x i j l m n = by (has_bit x i) refl
  where
    by : (t : Bool) → has_bit x i ≡ t → has_bit (if has_bit x i then x else x + power i) j ≡ has_bit x j
    by true e = rw e
    by false e = rw e (kept_bit x i j l m n e)

-- ---- sets of numbers
module _ (s : List ℕ) (v : ℕ) where
  pub length_with : length (with_number s v) ≡ length s
  unfolding with_number
  length_with = length-set s (v / 8) (with_bit (get_or s (v / 8) 0) (v % 8))

  pub has_joined : v < 8 * length s → has_number (with_number s v) v ≡ true
  unfolding has_number with_number
  has_joined h = rw (get_or-set_same s (v / 8) (with_bit (get_or s (v / 8) 0) (v % 8)) 0 (omega arith)) (with_same (get_or s (v / 8) 0) (v % 8) (omega arith))

  -- every other number is in the set as it was
  pub has_other : (w : ℕ) → (w ≡ v → ⊥) → has_number (with_number s v) w ≡ has_number s w
  unfolding has_number with_number
  has_other w n = by (eqb (w / 8) (v / 8)) refl (ltb (v / 8) (length s)) refl
    where
      by : (t : Bool) → eqb (w / 8) (v / 8) ≡ t → (u : Bool) → ltb (v / 8) (length s) ≡ u → has_bit (get_or (set s (v / 8) (with_bit (get_or s (v / 8) 0) (v % 8))) (w / 8) 0) (w % 8) ≡ has_bit (get_or s (w / 8) 0) (w % 8)
      by false e u f = rw (get_or-set_other s (v / 8) (w / 8) (with_bit (get_or s (v / 8) 0) (v % 8)) 0 (eqb-false (w / 8) (v / 8) e))
      by true e false f = rw (set_out s (v / 8) (with_bit (get_or s (v / 8) 0) (v % 8)) (ltb-false (v / 8) (length s) f))
      by true e true f =
          let q : w / 8 ≡ v / 8 = eqb-true (w / 8) (v / 8) e in
          let d : w % 8 ≡ v % 8 → ⊥ = λ r. n (omega (arith, q, r)) in
          rw (q, get_or-set_same s (v / 8) (with_bit (get_or s (v / 8) 0) (v % 8)) 0 (ltb-true (v / 8) (length s) f))
          (with_other (get_or s (v / 8) 0) (v % 8) (w % 8) (omega arith) (omega arith) d)

zeros : (n k : ℕ) → ◌≡◌ {A = ℕ} (get_or (replicate n 0) k 0) 0
zeros zero k = refl
zeros (suc n) zero = refl
zeros (suc n) (suc k) = zeros n k

-- no number is in a set that is all 0
pub has_none : (n v : ℕ) → has_number (replicate n 0) v ≡ false
unfolding has_number
has_none n v = rw (zeros n (v / 8)) (no_bit (v % 8) (omega arith))

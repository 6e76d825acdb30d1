-- How many numbers a list of bytes has, and which number stands at a place.
use Prim.Native.Nat.{ℕ, zero, suc, ◌+◌, ◌*◌, ◌≤◌, ◌<◌}
use native.Mathlib.Omega.{arith}
use native.Mathlib.Numerals.{unary_clauses}
use mathlib.Core.Path.{◌≡◌, refl, ◌∙◌}
use mathlib.Core.List.{List, [], ◌∷◌}
use lib.ListN.{length, get_or}
use Rattle.book.specs.Book.{word}
use Rattle.number_lists.specs.Numbers.{cut_number, numbers}

-- four bytes each, but for the last
pub record Counted (bytes : List ℕ) : Type 0 where
  pub reach : length bytes ≤ 4 * length (numbers bytes)
  pub close : 4 * length (numbers bytes) ≤ length bytes + 3

pub counted : (bytes : List ℕ) → Counted bytes
unfolding numbers
counted [] = record { reach = omega arith; close = omega arith }
counted (x₀ ∷ []) = record { reach = omega arith; close = omega arith }
counted (x₀ ∷ x₁ ∷ []) = record { reach = omega arith; close = omega arith }
counted (x₀ ∷ x₁ ∷ x₂ ∷ []) = record { reach = omega arith; close = omega arith }
counted (x₀ ∷ x₁ ∷ x₂ ∷ x₃ ∷ xs) =
    let r = counted xs in
    record { reach = omega (arith, r.reach); close = omega (arith, r.close) }

-- a number is read behind the first one as it is read without it
next : (x₀ x₁ x₂ x₃ : ℕ) (xs : List ℕ) (i : ℕ) → word (x₀ ∷ x₁ ∷ x₂ ∷ x₃ ∷ xs) (4 * suc i) ≡ word xs (4 * i)
next x₀ x₁ x₂ x₃ xs i = simp unary_clauses refl

-- a whole number is read where it stands
pub whole : (bytes : List ℕ) (i : ℕ) → 4 * i + 4 ≤ length bytes → word bytes (4 * i) ≡ get_or (numbers bytes) i 0
unfolding numbers
whole (x₀ ∷ x₁ ∷ x₂ ∷ x₃ ∷ xs) zero h = refl
whole (x₀ ∷ x₁ ∷ x₂ ∷ x₃ ∷ xs) (suc i) h = next x₀ x₁ x₂ x₃ xs i ∙ whole xs i (omega arith)
whole [] i h = absurd (omega arith)
whole (x₀ ∷ []) i h = absurd (omega arith)
whole (x₀ ∷ x₁ ∷ []) i h = absurd (omega arith)
whole (x₀ ∷ x₁ ∷ x₂ ∷ []) i h = absurd (omega arith)

-- one that is cut short is the last
pub cut : (bytes : List ℕ) (i : ℕ) → i < length (numbers bytes) → length bytes < 4 * i + 4 → cut_number ≡ get_or (numbers bytes) i 0
unfolding numbers
cut [] i l h = absurd (omega arith)
cut (x₀ ∷ []) zero l h = refl
cut (x₀ ∷ []) (suc i) l h = absurd (omega arith)
cut (x₀ ∷ x₁ ∷ []) zero l h = refl
cut (x₀ ∷ x₁ ∷ []) (suc i) l h = absurd (omega arith)
cut (x₀ ∷ x₁ ∷ x₂ ∷ []) zero l h = refl
cut (x₀ ∷ x₁ ∷ x₂ ∷ []) (suc i) l h = absurd (omega arith)
cut (x₀ ∷ x₁ ∷ x₂ ∷ x₃ ∷ xs) zero l h = absurd (omega arith)
cut (x₀ ∷ x₁ ∷ x₂ ∷ x₃ ∷ xs) (suc i) l h = cut xs i (omega arith) (omega arith)

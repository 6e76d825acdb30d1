-- A list of numbers that is handed over as bytes: 32 bits each, little-endian.
use Rattle.std.specs.Prelude.{ℕ, ◌^◌, List, [], ◌∷◌}
use Rattle.book.specs.Book.{word}

-- What stands for a number that is cut short: no number of 32 bits is as large, so it names nothing.
abbrev pub cut_number : ℕ
cut_number = 2 ^ 32

unfoldable pub numbers : (bytes : List ℕ) → List ℕ
numbers [] = []
numbers (x₀ ∷ []) = cut_number ∷ []
numbers (x₀ ∷ x₁ ∷ []) = cut_number ∷ []
numbers (x₀ ∷ x₁ ∷ x₂ ∷ []) = cut_number ∷ []
numbers (x₀ ∷ x₁ ∷ x₂ ∷ x₃ ∷ xs) = word (x₀ ∷ x₁ ∷ x₂ ∷ x₃ ∷ []) 0 ∷ numbers xs

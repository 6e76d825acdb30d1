-- Sets of numbers as bytes: a bit for each number.
use Rattle.std.specs.Prelude.{ℕ, ◌+◌, ◌/◌, ◌%◌, Bool, List, [], ◌∷◌, eqb, get_or, set, if◌then◌else◌}

-- what each bit of a byte counts, the lowest first
abbrev pub powers : List ℕ
powers = 1 ∷ 2 ∷ 4 ∷ 8 ∷ 16 ∷ 32 ∷ 64 ∷ 128 ∷ []

abbrev pub power : ℕ → ℕ
power i = get_or powers i 0

unfoldable pub has_bit : (byte i : ℕ) → Bool
has_bit byte i = eqb (byte / power i % 2) 1

-- the byte with bit i, whether it had it or not
unfoldable pub with_bit : (byte i : ℕ) → ℕ
with_bit byte i = if has_bit byte i then byte else byte + power i

-- number v stands in the set: bit v % 8 of byte v / 8
unfoldable pub has_number : (bytes : List ℕ) (v : ℕ) → Bool
has_number bytes v = has_bit (get_or bytes (v / 8) 0) (v % 8)

-- the set with number v
unfoldable pub with_number : (bytes : List ℕ) (v : ℕ) → List ℕ
with_number bytes v = set bytes (v / 8) (with_bit (get_or bytes (v / 8) 0) (v % 8))

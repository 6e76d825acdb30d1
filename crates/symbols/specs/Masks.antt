-- Sets of letters as two masks of 64 bits.
use Rattle.std.specs.Prelude.{ℕ, ◌^◌, ◌/◌, ◌%◌, Bool, ◌&&◌, eqb, ltb, if◌then◌else◌}

-- the first mask has the letters below 64, the second those from 64 on
unfoldable pub in_masks : (low high c : ℕ) → Bool
in_masks low high c = ltb c 128 && eqb ((if ltb c 64 then low else high) / 2 ^ (c % 64) % 2) 1

-- Letters that are compared in steps.
use Rattle.std.specs.Prelude.{ℕ, ◌+◌, ◌*◌, ◌<◌, ◌≡◌, get_or}
use Rattle.basics.specs.Text.{Text}

-- four bytes stand at i
pub record Four (a : Text) (i : ℕ) : Type 0 where
  pub first : get_or a i 0 < 256
  pub second : get_or a (i + 1) 0 < 256
  pub third : get_or a (i + 2) 0 < 256
  pub fourth : get_or a (i + 3) 0 < 256

-- the four bytes at i as one number, the lowest first; 0 behind the end
abbrev pub four_at : Text → ℕ → ℕ
four_at a i = get_or a i 0 + 256 * get_or a (i + 1) 0 + 65536 * get_or a (i + 2) 0 + 16777216 * get_or a (i + 3) 0

-- the eight bytes at i as one number
abbrev pub eight_at : Text → ℕ → ℕ
eight_at a i = four_at a i + 4294967296 * four_at a (i + 4)

-- r is that number
pub record Eight (a : Text) (i r : ℕ) : Type 0 where
  pub is : r ≡ eight_at a i
  pub low : Four a i
  pub high : Four a (i + 4)

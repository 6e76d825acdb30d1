-- The table of contents by the sections' counts, as the code writes it.
use Rattle.std.specs.Prelude.{ℕ, zero, suc, ◌+◌, ◌*◌, ◌^◌, ◌<◌, ◌≡◌, List, ◌++◌, length, get_or}
use Rattle.basics.specs.Bytes.{bytes4}
use Rattle.basics.specs.Lists.{join_below}
use Rattle.book.specs.Book.{contents_size}
use Rattle.book.specs.Laid.{section_at, section_count}

unfoldable pub start_by : List ℕ → ℕ → ℕ
start_by counts zero = contents_size
start_by counts (suc n) = start_by counts n + (section_at n).size * get_or counts n 0

unfoldable pub line_by : List ℕ → ℕ → List ℕ
line_by counts n = bytes4 (start_by counts n) ++ bytes4 (get_or counts n 0)

unfoldable pub table_by : List ℕ → List ℕ
table_by counts = join_below section_count (line_by counts)

-- of 32 bits each
pub record Counts (counts : List ℕ) : Type 0 where
  pub ten : length counts ≡ section_count
  pub small : (n : ℕ) → n < section_count → get_or counts n 0 < 2 ^ 32

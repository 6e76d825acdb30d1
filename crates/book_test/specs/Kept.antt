-- Two books, the second with every record of the first.
use Rattle.std.specs.Prelude.{ℕ, ◌+◌, ◌*◌, ◌<◌, ◌≤◌, ◌≡◌, length}
use Rattle.book.specs.Book.{Book, letters, offset, size, field, letter}
use Rattle.book.specs.Laid.{section_at, section_count}

-- every record of b stands in c under its number
pub record Kept (b c : Book) : Type 0 where
  pub counts : (n : ℕ) → n < section_count → size b (section_at n) ≤ size c (section_at n)
  pub fields : (n : ℕ) → n < section_count → (k i : ℕ) → k < size b (section_at n) → 4 * i + 4 ≤ (section_at n).size → field c (section_at n) k i ≡ field b (section_at n) k i
  pub letter : (i : ℕ) → i < size b letters → letter c i ≡ letter b i
  pub letters_laid : offset c letters + size c letters ≤ length c

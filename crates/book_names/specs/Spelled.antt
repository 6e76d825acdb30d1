-- What refusal 4 gives to refusal 28: the names that are looked at, and the letters of every name, stand in the book.
use Rattle.std.specs.Prelude.{ℕ, ◌+◌, ◌*◌, ◌<◌, ◌≤◌, ◌≡◌, length}
use Rattle.book.specs.Book.{Book, letters, names, types, constants, functions, terms, size, field, user_types}
use Rattle.book.specs.Laid.{section_at, Laid}

pub record Spelled (b : Book) : Type 0 where
  pub name : (n : ℕ) → n < size b names → field b names n 0 + field b names n 1 ≤ size b letters
  pub typ : (k : ℕ) → k < size b types → field b types k 0 < size b names
  pub constant : (k : ℕ) → k < size b constants → field b constants k 0 < size b names
  pub function : (k : ℕ) → k < size b functions → field b functions k 0 < size b names
  pub literal : (t : ℕ) → t < size b terms → field b terms t 0 ≡ 2 → field b terms t 1 < size b names
  pub literal_type : (t : ℕ) → t < size b terms → field b terms t 0 ≡ 2 → field b terms t 2 < user_types + size b types

-- a section whose records have a name as their first field
pub record NamedFirst (b : Book) (section : ℕ) : Type 0 where
  pub known : section < 10
  pub listed : 8 * section + 8 ≤ length b
  pub laid : Laid b (section_at section)
  pub wide : 4 ≤ (section_at section).size
  pub named : (k : ℕ) → k < size b (section_at section) → field b (section_at section) k 0 < size b names

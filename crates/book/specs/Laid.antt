-- What the readers ask for, and what they give.
use Rattle.std.specs.Prelude.{ℕ, ◌+◌, ◌*◌, ◌<◌, ◌≤◌, ◌≡◌, length, get_or}
use Rattle.book.specs.Book.{Book, Section, letters, names, types, constants, functions, axioms, patterns, terms, contexts, lists, sections, offset, size}

-- the section at a place of the table of contents
abbrev pub section_at : ℕ → Section
section_at n = get_or sections n letters

abbrev pub section_count : ℕ
section_count = 10

-- the records of section s stand in the book, and their count is within its limit
pub record Laid (b : Book) (s : Section) : Type 0 where
  pub contents : 8 * s.number + 8 ≤ length b
  pub whole : offset b s + s.size * size b s ≤ length b
  pub few : size b s ≤ s.most

-- so do all sections
pub record AllLaid (b : Book) : Type 0 where
  pub letters_laid : Laid b letters
  pub names_laid : Laid b names
  pub types_laid : Laid b types
  pub constants_laid : Laid b constants
  pub functions_laid : Laid b functions
  pub axioms_laid : Laid b axioms
  pub patterns_laid : Laid b patterns
  pub terms_laid : Laid b terms
  pub contexts_laid : Laid b contexts
  pub lists_laid : Laid b lists

-- field i of record k of section s can be read
pub record Holds (b : Book) (s : Section) (k i : ℕ) : Type 0 where
  pub laid : Laid b s
  pub here : k < size b s
  pub within : 4 * i + 4 ≤ s.size

-- r is the number n that stands in the book, of 32 bits
pub record Reads (n r : ℕ) : Type 0 where
  pub is : r ≡ n
  pub small : r < 4294967296

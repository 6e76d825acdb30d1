-- A book by the bytes of its sections: the table of contents, then the bodies in their order.
use Rattle.std.specs.Prelude.{ℕ, zero, suc, ◌+◌, ◌*◌, ◌/◌, ◌^◌, ◌<◌, ◌≡◌, List, [], ◌∷◌, ◌++◌, length, get_or, take, drop}
use Rattle.basics.specs.Text.{Text}
use Rattle.basics.specs.Lists.{join_below}
use Rattle.book.specs.Book.{Book, Section, contents_size, word, offset, size}
use Rattle.book.specs.Laid.{section_at, section_count}
use Rattle.basics.specs.Bytes.{bytes4}

-- a body for each section
abbrev pub Bodies : Type 0
Bodies = Section → List ℕ

-- the bytes of a section's records
unfoldable pub body : Book → Section → List ℕ
body b s = take (s.size * size b s) (drop (offset b s) b)

-- how many records a section's body holds
unfoldable pub count_of : Bodies → Section → ℕ
count_of f s = length (f s) / s.size

abbrev pub body_at : Bodies → ℕ → List ℕ
body_at f n = f (section_at n)

-- where the body of the section with a number begins; the book ends where an eleventh would
unfoldable pub start_of : Bodies → ℕ → ℕ
start_of f zero = contents_size
start_of f (suc n) = start_of f n + length (body_at f n)

-- a section's line in the table of contents
unfoldable pub entry_of : Bodies → ℕ → List ℕ
entry_of f n = bytes4 (start_of f n) ++ bytes4 (count_of f (section_at n))

unfoldable pub assembled : Bodies → Book
assembled f = join_below section_count (entry_of f) ++ join_below section_count (body_at f)

-- field i of record k of a body of section s
unfoldable pub field_in : List ℕ → Section → ℕ → ℕ → ℕ
field_in bytes s k i = word bytes (s.size * k + 4 * i)

-- the numbers in a range of a body of lists
unfoldable pub entries_in : List ℕ → (start count : ℕ) → List ℕ
entries_in bytes start zero = []
entries_in bytes start (suc count) = word bytes (4 * start) ∷ entries_in bytes (suc start) count

-- the letters of a range
abbrev pub text_in : List ℕ → (start count : ℕ) → Text
text_in bytes start count = take count (drop start bytes)

-- every body is whole records, and the table's numbers have 32 bits
pub record Fits (f : Bodies) : Type 0 where
  pub whole : (n : ℕ) → n < section_count → length (body_at f n) ≡ (section_at n).size * count_of f (section_at n)
  pub small : start_of f section_count < 2 ^ 32

-- the length of a book whose sections are all full
abbrev pub book_most : ℕ
book_most = 63312

-- the table of contents is made of bytes
pub record Bytes (b : Book) : Type 0 where
  pub low : (i : ℕ) → i < contents_size → get_or b i 0 < 256

-- The book (document 01's word for the bytes that hold the tree of premises): ten sections of records behind a table of contents.
use Rattle.std.specs.Prelude.{ℕ, zero, suc, ◌+◌, ◌*◌, List, [], ◌∷◌, get_or, take, drop}
use Rattle.basics.specs.Text.{Text}
use Rattle.basics.specs.Letters.{four_at}

abbrev pub Book : Type 0
Book = List ℕ

-- a section's place in the table of contents, the size of its records, and their largest count
pub record Section : Type 0 where
  pub number : ℕ
  pub size : ℕ
  pub most : ℕ

abbrev pub section : ℕ → ℕ → ℕ → Section
section n s m = record { number = n; size = s; most = m }

abbrev pub letters : Section
letters = section 0 1 8192

abbrev pub names : Section
names = section 1 8 512

abbrev pub types : Section
types = section 2 4 64

abbrev pub constants : Section
constants = section 3 8 256

abbrev pub functions : Section
functions = section 4 24 128

abbrev pub axioms : Section
axioms = section 5 12 128

abbrev pub patterns : Section
patterns = section 6 8 128

abbrev pub terms : Section
terms = section 7 28 1024

abbrev pub contexts : Section
contexts = section 8 12 512

abbrev pub lists : Section
lists = section 9 4 2048

abbrev pub sections : List Section
sections = letters ∷ names ∷ types ∷ constants ∷ functions ∷ axioms ∷ patterns ∷ terms ∷ contexts ∷ lists ∷ []

-- ten pairs of an offset and a count
abbrev pub contents_size : ℕ
contents_size = 80

-- an unsigned 32-bit number, little-endian; 0 behind the end
abbrev pub word : Book → ℕ → ℕ
word b at = four_at b at

unfoldable pub offset : Book → Section → ℕ
offset b s = word b (8 * s.number)

unfoldable pub size : Book → Section → ℕ
size b s = word b (8 * s.number + 4)

-- field i of record r
unfoldable pub field : Book → Section → ℕ → ℕ → ℕ
field b s r i = word b (offset b s + s.size * r + 4 * i)

-- the numbers in a range of lists
unfoldable pub entries : Book → (start count : ℕ) → List ℕ
entries b start zero = []
entries b start (suc count) = field b lists start 0 ∷ entries b (suc start) count

unfoldable pub letter : Book → ℕ → ℕ
letter b i = get_or b (offset b letters + i) 0

unfoldable pub name_text : Book → ℕ → Text
name_text b n = take (field b names n 1) (drop (offset b letters + field b names n 0) b)

-- type numbers: Bool, Int, and from here up the user types
abbrev pub user_types : ℕ
user_types = 2

-- an axiom's term where it has none
abbrev pub no_term : ℕ
no_term = 0xFFFFFFFF

-- a node's depth is at most this
abbrev pub depth_most : ℕ
depth_most = 400

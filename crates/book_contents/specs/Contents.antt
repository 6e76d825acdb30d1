-- Refusals 2 and 3: the contents are as laid out, and no count is over its limit. Sums are exact, never modulo 2^32.
use Rattle.std.specs.Prelude.{ℕ, ◌+◌, ◌*◌, List, [], ◌∷◌, Bool, ◌&&◌, eqb, leb, length}
use Rattle.basics.specs.Lists.{all}
use Rattle.book.specs.Book.{Book, Section, sections, contents_size, offset, size}

-- each section begins where the one before ends, and the last ends the book
unfoldable pub laid_from : Book → ℕ → List Section → Bool
laid_from b at [] = eqb at (length b)
laid_from b at (s ∷ ss) = eqb (offset b s) at && laid_from b (at + s.size * size b s) ss

unfoldable pub laid_out : Book → Bool
laid_out b = leb contents_size (length b) && laid_from b contents_size sections

unfoldable pub count_fits : Book → Section → Bool
count_fits b s = leb (size b s) s.most

unfoldable pub counts_fit : Book → Bool
counts_fit b = all sections (count_fits b)

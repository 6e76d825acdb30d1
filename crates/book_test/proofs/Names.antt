-- Names of an accepted book: their lengths, and that none holds a line end.
use Prim.Native.Nat.{ℕ, ◌+◌, ◌<◌}
use native.Mathlib.Omega.{arith}
use mathlib.Core.Path.{◌≡◌}
use lib.ListN.{length, drop, length-drop}
use lib.Seq.{get_or-drop, length-take-le}
use Rattle.basics.proofs.Clean.{Clean, clean_take}
use Rattle.book.specs.Book.{Book, letters, names, offset, size, field, letter, name_text}
use Rattle.book_test.specs.Promise.{Promise}

pub name-length : (b : Book) → Promise b → (n : ℕ) → n < size b names → length (name_text b n) ≡ field b names n 1
unfolding name_text
name-length b P n h = length-take-le _ (drop (offset b letters + field b names n 0) b) (omega (arith, length-drop (offset b letters + field b names n 0) b, (P.name n h).ends, P.letters_laid.whole))

pub name_clean : (b : Book) → Promise b → (n : ℕ) → n < size b names → Clean (name_text b n)
unfolding name_text letter
name_clean b P n l =
    let start = field b names n 0 in
    let count = field b names n 1 in
    clean_take count (drop (offset b letters + start) b) λ i k e.
    let fits : start + i < size b letters = omega (arith, (P.name n l).ends) in
    let same : offset b letters + start + i ≡ offset b letters + (start + i) = omega arith in
    omega (arith, P.letter_low (start + i) fits, rw (get_or-drop, same) at e)

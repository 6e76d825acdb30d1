-- Refusal 3 of a grown book, section by section.
use Prim.Native.Nat.{ℕ, suc, ◌+◌, ◌-◌, ◌*◌, ◌/◌, ◌≤◌, ◌<◌, min}
use native.Mathlib.Nat.{le-div_iff_mul-le}
use native.Mathlib.Omega.{arith}
use native.Mathlib.Decide.{dec_le}
use mathlib.Core.Path.{◌≡◌, sym, ap, ◌∙◌}
use mathlib.Core.Bool.{true, false}
use mathlib.Core.List.{List, ◌++◌}
use lib.Dec.{leb}
use lib.ListN.{length, get_or, length-append}
use borrow.Author.Tests.{le-leb, lt-leb}
use Rattle.basics.specs.Write.{MOST}
use Rattle.book.specs.Book.{Book, size}
use Rattle.book.specs.Laid.{section_at, section_count, Laid, AllLaid, Reads}
use Rattle.book.proofs.Sections.{sizes, limits, tabled}
use Rattle.book.proofs.EachSection.{each_section, size_positive}
use Rattle.book_layout.specs.Layout.{count_of}
use Rattle.book_growth.specs.Growth.{Addition, added, grows_by}
use Rattle.book_growth.specs.Parts.{grown_count}

pub each_laid : {b : Book} → AllLaid b → (n : ℕ) → n < section_count → Laid b (section_at n)
each_laid {b} a =
    each_section (λ n. Laid b (section_at n)) a.letters_laid a.names_laid a.types_laid a.constants_laid a.functions_laid a.axioms_laid a.patterns_laid a.terms_laid
    a.contexts_laid a.lists_laid

-- the code's test can't wrap, since the count is within its limit
moved : (x m k : ℕ) → k ≤ m → leb x (m - k) ≡ leb (k + x) m
moved x m k h = at (dec_le (k + x) m)
  where
    at : Dec (k + x ≤ m) → leb x (m - k) ≡ leb (k + x) m
    at (yes l) = le-leb x (m - k) (omega arith) ∙ sym (le-leb (k + x) m l)
    at (no l) = lt-leb x (m - k) (omega arith) ∙ sym (lt-leb (k + x) m (omega arith))

-- a sum that stayed at MOST is over every limit, as the sum itself
stayed : (k x s most : ℕ) {r : ℕ} → 1 ≤ s → suc most * s ≤ MOST → r ≡ min x MOST → leb (k + r / s) most ≡ leb (k + x / s) most
stayed k x s most {r} one small e = at (dec_le x MOST)
  where
    over : (y : ℕ) → MOST ≤ y → leb (k + y / s) most ≡ false
    over y h = let l : suc most ≤ y / s = (le-div_iff_mul-le one).1 (omega arith) in lt-leb (k + y / s) most (omega arith)

    at : Dec (x ≤ MOST) → leb (k + r / s) most ≡ leb (k + x / s) most
    at (yes h) = let q : r ≡ x = omega arith in rw q
    at (no h) = over r (omega arith) ∙ sym (over x (omega arith))

limits_low : (n : ℕ) → n < section_count → suc (section_at n).most * (section_at n).size ≤ MOST
limits_low =
    each_section (λ n. suc (section_at n).most * (section_at n).size ≤ MOST) (omega arith) (omega arith) (omega arith) (omega arith) (omega arith) (omega arith) (omega arith)
    (omega arith) (omega arith) (omega arith)

-- section n's new bytes, in two parts x and y
module _ (b : Book) (a : Addition) (n : ℕ) (known : n < section_count) (x y : List ℕ) (parts : x ++ y ≡ added a (section_at n)) where
  pub both_counted : (length x + length y) / (section_at n).size ≡ count_of (added a) (section_at n)
  unfolding count_of
  both_counted = ap (λ (m : ℕ). m / (section_at n).size) (sym (length-append x y) ∙ ap length parts)

  pub within_by : {k r : ℕ} → Laid b (section_at n) → Reads (size b (section_at n)) k → r ≡ min (length x + length y) MOST
      → leb (r / get_or sizes n 0) (get_or limits n 0 - k) ≡ grows_by b a n
  unfolding grows_by
  within_by {r = r} laid many e =
      let s = section_at n in
      rw ((tabled n known).size, (tabled n known).most, many.is)
      (moved (r / s.size) s.most (size b s) laid.few ∙ stayed (size b s) (length x + length y) s.size s.most (size_positive n known) (limits_low n known) e
      ∙ ap (λ (m : ℕ). leb (size b s + m) s.most) both_counted)

  pub grown_counted : {k : ℕ} → Reads (size b (section_at n)) k → k + (length x + length y) / get_or sizes n 0 ≡ size b (section_at n) + count_of (added a) (section_at n)
  grown_counted many = rw ((tabled n known).size, many.is, both_counted)

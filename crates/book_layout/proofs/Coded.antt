-- What the code's sums come to: where a body ends, and the table line by line.
use Prim.Native.Nat.{ℕ, ◌+◌, ◌*◌, ◌/◌, ◌-◌, ◌^◌, ◌≤◌, ◌<◌}
use native.Mathlib.Nat.{mul-le-mul_right}
use native.Mathlib.Numerals.{add-one}
use native.Mathlib.Omega.{arith}
use mathlib.Core.Path.{◌≡◌, refl}
use mathlib.Core.List.{List, ◌++◌}
use lib.ListN.{length, get_or, take, drop}
use Rattle.basics.specs.Lists.{join_below}
use Rattle.basics.specs.Write.{MOST, WroteAt}
use Rattle.basics.proofs.Places.{at_then, at_as, at_none}
use Rattle.book.specs.Book.{Book, offset, size}
use Rattle.book.specs.Laid.{section_at, section_count, Laid, Reads}
use Rattle.book.proofs.Sections.{sizes, tabled}
use Rattle.book.proofs.EachSection.{each_section, size_positive}
use Rattle.book_layout.specs.Layout.{body}
use Rattle.basics.specs.Bytes.{bytes4}
use Rattle.book_layout.specs.Table.{start_by, line_by, table_by, Counts}

pub contents_end : {b : Book} {n : ℕ} → n < section_count → Laid b (section_at n) → 8 * n + 8 ≤ length b
contents_end {n = n} known laid = omega (arith, (tabled n known).number, laid.contents)

module _ {b : Book} {n o k : ℕ} (known : n < section_count) (laid : Laid b (section_at n)) (begins : Reads (offset b (section_at n)) o) (many : Reads (size b (section_at n)) k) where
  pub body_end : o + get_or sizes n 0 * k ≤ length b
  body_end = rw ((tabled n known).size, begins.is, many.is) laid.whole

  pub body-part : take (o + get_or sizes n 0 * k - o) (drop o b) ≡ body b (section_at n)
  unfolding body
  body-part =
      let e : o + get_or sizes n 0 * k - o ≡ get_or sizes n 0 * k = omega arith in
      rw (e, (tabled n known).size, begins.is, many.is)

pub size_there : {n : ℕ} → n < section_count → 0 < get_or sizes n 0
size_there {n} known = rw (tabled n known).size (size_positive n known)

pub more_are : (b : Book) (n : ℕ) {k : ℕ} (more : ℕ) → n < section_count → Reads (size b (section_at n)) k → k + more / get_or sizes n 0 ≡ size b (section_at n) + more / (section_at n).size
more_are b n more known many = rw ((tabled n known).size, many.is)

pub limit_fits : (n : ℕ) → n < section_count → (section_at n).most < 2 ^ 32
limit_fits =
    each_section (λ n. (section_at n).most < 2 ^ 32) (omega arith) (omega arith) (omega arith) (omega arith) (omega arith) (omega arith) (omega arith) (omega arith)
    (omega arith) (omega arith)

-- the table up to a line
pub record Begun (counts : List ℕ) (o o' : List ℕ) (start at n : ℕ) : Type 0 where
  pub starts : start ≡ start_by counts n
  pub low : start ≤ 80 + 28 * 4294967296 * n
  pub wrote : WroteAt (join_below n (line_by counts)) 0 o o' at

pub begun : (counts o : List ℕ) → Begun counts o o 80 0 0
unfolding start_by join_below
begun counts o = record { starts = refl; low = omega arith; wrote = at_none 0 o (omega arith) }

module _ {counts o o1 : List ℕ} {start at n : ℕ} (C : Counts counts) (B : Begun counts o o1 start at n) where
  line_small : n < section_count → get_or sizes n 0 * get_or counts n 0 ≤ 28 * 4294967295
  line_small known =
      let c : get_or counts n 0 ≤ 4294967295 = omega (arith, C.small n known) in
      omega (arith, mul-le-mul_right (get_or counts n 0) (tabled n known).narrow)

  pub begun_more : {o2 : List ℕ} {r : ℕ} → n < section_count → length o < MOST + 1 → WroteAt (bytes4 start ++ bytes4 (get_or counts n 0)) at o1 o2 r
      → Begun counts o o2 (start + get_or sizes n 0 * get_or counts n 0) r (n + 1)
  unfolding start_by join_below line_by
  begun_more known short w =
      record {
        starts = rw (add-one n, B.starts, (tabled n known).size);
        low = omega (arith, B.low, line_small known);
        wrote = rw (add-one n) (at_then short B.wrote (at_as (rw B.starts) w));
      }

  pub begun_fits : n < section_count → start + get_or sizes n 0 * get_or counts n 0 < 2 ^ 64
  begun_fits known = omega (arith, B.low, line_small known)

  pub begun_all : n ≡ section_count → WroteAt (table_by counts) 0 o o1 at
  unfolding table_by
  begun_all e = rw e at B.wrote

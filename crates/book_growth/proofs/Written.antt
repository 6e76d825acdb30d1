-- A grown book as the code writes it: the table by the counts, then the bodies.
use Prim.Native.Nat.{ℕ, ◌+◌, ◌/◌, ◌≤◌, ◌<◌}
use native.Mathlib.Numerals.{add-one}
use native.Mathlib.Omega.{arith}
use mathlib.Core.Path.{◌≡◌, refl, sym, ◌∙◌}
use mathlib.Core.Bool.{true}
use mathlib.Core.List.{List, [], ◌++◌, append_assoc, append-nil}
use lib.ListN.{length, get_or}
use borrow.Author.Tests.{leb-true}
use Rattle.std.proofs.lemmas.List.{ext_get_or}
use Rattle.basics.specs.Lists.{join_below}
use Rattle.basics.proofs.Counting.{below_each}
use Rattle.book.specs.Book.{Book, letters, names, types, constants, functions, axioms, patterns, terms, contexts, lists, size}
use Rattle.book.specs.Laid.{section_at, section_count}
use Rattle.book.proofs.EachSection.{each_section}
use Rattle.book_contents.specs.Contents.{laid_out}
use Rattle.book_layout.specs.Layout.{body, count_of, body_at, entry_of, assembled}
use Rattle.book_growth.specs.Growth.{Addition, added, grown_body, grown, Whole, grows_by, grows_within}
use Rattle.book_layout.specs.Table.{table_by, Counts}
use Rattle.book_growth.specs.Parts.{grown_count, grown_counts}
use Rattle.book_layout.proofs.Tables.{table-by}
use Rattle.book_layout.proofs.Coded.{limit_fits}
use Rattle.book_growth.proofs.Grown.{count_grown, grown_fits, grown_few}

pub grows_each : (b : Book) (a : Addition) → grows_within b a ≡ true → (n : ℕ) → n < section_count → size b (section_at n) + count_of (added a) (section_at n) ≤ (section_at n).most
unfolding grows_within grows_by
grows_each b a fits n known =
    leb-true (size b (section_at n) + count_of (added a) (section_at n)) (section_at n).most (below_each section_count (grows_by b a) fits n known)

counts_at : (b : Book) (a : Addition) (n : ℕ) → n < section_count → get_or (grown_counts b a) n 0 ≡ grown_count b a (section_at n)
unfolding grown_counts
counts_at b a = each_section (λ n. get_or (grown_counts b a) n 0 ≡ grown_count b a (section_at n)) refl refl refl refl refl refl refl refl refl refl

-- the counts that stand before the n-th, by their places
abbrev pub CountedTo : Book → Addition → List ℕ → ℕ → Type 0
CountedTo b a counts n = (k : ℕ) → k < n → get_or counts k 0 ≡ grown_count b a (section_at k)

pub counted_all : (b : Book) (a : Addition) {counts : List ℕ} → length counts ≡ 10 → CountedTo b a counts 10 → counts ≡ grown_counts b a
unfolding grown_counts
counted_all b a {counts} ten all =
    ext_get_or 0 counts (grown_counts b a) ten (λ k l. let h : k < 10 = omega arith in all k h ∙ sym (counts_at b a k h))

module _ (b : Book) (a : Addition) (laid : laid_out b ≡ true) (whole : Whole a) (fits : grows_within b a ≡ true) where
  counts_are : (n : ℕ) → n < section_count → get_or (grown_counts b a) n 0 ≡ count_of (grown_body b a) (section_at n)
  unfolding grown_count
  counts_are n known = counts_at b a n known ∙ sym (count_grown b a laid whole fits n known)

  pub counts_good : Counts (grown_counts b a)
  unfolding grown_counts
  counts_good =
      record { ten = refl; small = λ n known. omega (arith, counts_are n known, grown_few b a laid whole fits n known, limit_fits n known) }

  table_grown : join_below section_count (entry_of (grown_body b a)) ≡ table_by (grown_counts b a)
  table_grown = table-by (grown_body b a) (grown_fits b a laid whole fits) (grown_counts b a) counts_are

-- the table by the counts, then the bodies of the first n sections
abbrev pub BodiesTo : Book → Addition → ℕ → List ℕ
BodiesTo b a n = table_by (grown_counts b a) ++ join_below n (body_at (grown_body b a))

module _ (b : Book) (a : Addition) where
  pub bodies_none : table_by (grown_counts b a) ≡ BodiesTo b a 0
  unfolding join_below
  bodies_none = sym (append-nil (table_by (grown_counts b a)))

  pub bodies_more : (n : ℕ) → BodiesTo b a n ++ grown_body b a (section_at n) ≡ BodiesTo b a (n + 1)
  unfolding join_below
  bodies_more n = rw (add-one n) (append_assoc (table_by (grown_counts b a)) (join_below n (body_at (grown_body b a))) (grown_body b a (section_at n)))

  pub written_grown : (n : ℕ) → laid_out b ≡ true → Whole a → grows_within b a ≡ true → n ≡ section_count → BodiesTo b a n ≡ grown b a
  unfolding grown assembled
  written_grown n laid whole fits e = rw (e, table_grown b a laid whole fits)

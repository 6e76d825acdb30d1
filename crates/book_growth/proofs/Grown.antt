-- A grown book: it is laid out, the old records stand under their numbers, and the new ones behind them.
use Prim.Native.Nat.{ℕ, ◌+◌, ◌*◌, ◌≤◌, ◌<◌}
use native.Mathlib.Nat.{mul-add, mul-div_cancel_left}
use native.Mathlib.Omega.{arith}
use mathlib.Core.Path.{◌≡◌, sym, ◌∙◌}
use mathlib.Core.Bool.{true}
use mathlib.Core.List.{◌++◌}
use lib.ListN.{length, get_or, length-append, get_or-append}
use lib.Seq.{get_or-append-add}
use borrow.Author.Tests.{leb-true}
use Rattle.basics.proofs.Counting.{below_each}
use Rattle.book.specs.Book.{Book, letters, size, field, letter}
use Rattle.book.specs.Laid.{section_at, section_count}
use Rattle.book.proofs.EachSection.{size_positive}
use Rattle.book_contents.specs.Contents.{laid_out, counts_fit}
use Rattle.book_test.specs.Kept.{Kept}
use Rattle.book_layout.specs.Layout.{body, count_of, field_in, Fits, book_most}
use Rattle.book_growth.specs.Growth.{Addition, added, grown_body, grown, Whole, grows_by, grows_within}
use Rattle.book_layout.proofs.Assembled.{length_assembled, size_assembled, field_assembled, body_assembled, letter_assembled, body_ends}
use Rattle.book_layout.proofs.Contents.{laid-out, counts-fit}
use Rattle.book_layout.proofs.Whole.{length_body}
use Rattle.book_layout.proofs.Bodies.{field_body, letter_body, field_first, field_second}
use Rattle.book_layout.proofs.Few.{at_most, few_fit}

module _ (b : Book) (a : Addition) (laid : laid_out b ≡ true) (whole : Whole a) (fits : grows_within b a ≡ true) where
  module _ (n : ℕ) (known : n < section_count) where
    length_grown_body : length (grown_body b a (section_at n)) ≡ (section_at n).size * (size b (section_at n) + count_of (added a) (section_at n))
    unfolding grown_body
    length_grown_body =
        let s = section_at n in
        length-append (body b s) (added a s) ∙ omega (arith, length_body b laid n known, whole.records n known, mul-add s.size (size b s) (count_of (added a) s))

    pub count_grown : count_of (grown_body b a) (section_at n) ≡ size b (section_at n) + count_of (added a) (section_at n)
    unfolding count_of
    count_grown = rw length_grown_body (mul-div_cancel_left (size b (section_at n) + count_of (added a) (section_at n)) (size_positive n known))

    grown_whole : length (grown_body b a (section_at n)) ≡ (section_at n).size * count_of (grown_body b a) (section_at n)
    grown_whole = rw count_grown length_grown_body

    pub grown_few : count_of (grown_body b a) (section_at n) ≤ (section_at n).most
    unfolding grows_within grows_by
    grown_few = rw count_grown (leb-true (size b (section_at n) + count_of (added a) (section_at n)) (section_at n).most (below_each section_count (grows_by b a) fits n known))

  pub grown_fits : Fits (grown_body b a)
  grown_fits = few_fit (grown_body b a) grown_whole grown_few

  pub grown_laid : laid_out (grown b a) ≡ true
  unfolding grown
  grown_laid = laid-out (grown_body b a) grown_fits

  pub grown-counts : counts_fit (grown b a) ≡ true
  unfolding grown
  grown-counts = counts-fit (grown_body b a) grown_fits grown_few

  pub grown_most : length (grown b a) ≤ book_most
  unfolding grown
  grown_most = omega (arith, length_assembled (grown_body b a), at_most (grown_body b a) grown_whole grown_few)

  module _ (n : ℕ) (known : n < section_count) where
    pub size_grown : size (grown b a) (section_at n) ≡ size b (section_at n) + count_of (added a) (section_at n)
    unfolding grown
    size_grown = size_assembled (grown_body b a) grown_fits n known ∙ count_grown n known

    pub body_grown : body (grown b a) (section_at n) ≡ body b (section_at n) ++ added a (section_at n)
    unfolding grown grown_body
    body_grown = body_assembled (grown_body b a) grown_fits n known

    field_grown : (k i : ℕ) → k < size b (section_at n) + count_of (added a) (section_at n) → 4 * i + 4 ≤ (section_at n).size
        → field (grown b a) (section_at n) k i ≡ field_in (body b (section_at n) ++ added a (section_at n)) (section_at n) k i
    unfolding grown grown_body
    field_grown k i h w = field_assembled (grown_body b a) grown_fits n known k i (omega (arith, count_grown n known)) w

    pub field_kept : (k i : ℕ) → k < size b (section_at n) → 4 * i + 4 ≤ (section_at n).size → field (grown b a) (section_at n) k i ≡ field b (section_at n) k i
    field_kept k i h w =
        let s = section_at n in
        field_grown k i (omega arith) w ∙ field_first s (body b s) (added a s) (size b s) (length_body b laid n known) k i h w ∙ sym (field_body b laid n known k i h w)

    pub field_added : (k i : ℕ) → k < count_of (added a) (section_at n) → 4 * i + 4 ≤ (section_at n).size → field (grown b a) (section_at n) (size b (section_at n) + k) i ≡ field_in (added a (section_at n)) (section_at n) k i
    field_added k i h w =
        let s = section_at n in
        field_grown (size b s + k) i (omega arith) w
        ∙ field_second s (body b s) (added a s) (size b s) (length_body b laid n known) (count_of (added a) s) k i (whole.records n known) h w

  letter_grown : (i : ℕ) → i < size b letters + count_of (added a) letters → letter (grown b a) i ≡ get_or (body b letters ++ added a letters) i 0
  unfolding grown grown_body
  letter_grown i h = letter_assembled (grown_body b a) grown_fits i (omega (arith, count_grown 0 (omega arith)))

  pub letter_kept : (i : ℕ) → i < size b letters → letter (grown b a) i ≡ letter b i
  letter_kept i h =
      letter_grown i (omega arith) ∙ get_or-append (body b letters) (added a letters) 0 i (omega (arith, length_body b laid 0 (omega arith))) ∙ sym (letter_body b laid i h)

  pub letter_added : (i : ℕ) → i < length a.letters → letter (grown b a) (size b letters + i) ≡ get_or a.letters i 0
  unfolding added
  letter_added i h =
      let l : length (body b letters) ≡ size b letters = omega (arith, length_body b laid 0 (omega arith)) in
      letter_grown (size b letters + i) (omega (arith, whole.records 0 (omega arith))) ∙ rw (← l) (get_or-append-add (body b letters) a.letters i 0)

  pub grown_kept : Kept b (grown b a)
  unfolding grown
  grown_kept =
      record {
        counts = λ n known. omega (arith, size_grown n known);
        fields = field_kept;
        letter = letter_kept;
        letters_laid = omega (arith, body_ends (grown_body b a) grown_fits 0 (omega arith));
      }

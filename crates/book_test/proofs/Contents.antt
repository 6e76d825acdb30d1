-- From refusals 2 and 3: each section's records stand in the book, and are within the section's limit.
use Prim.Native.Nat.{ℕ, ◌+◌, ◌*◌, ◌≤◌}
use native.Mathlib.Omega.{arith}
use mathlib.Core.Path.{◌≡◌, refl}
use mathlib.Core.List.{List, [], ◌∷◌}
use mathlib.Core.Bool.{Bool, true}
use lib.Dec.{eqb, leb}
use lib.ListN.{length}
use borrow.Author.Tests.{eqb-true, leb-true}
use Rattle.basics.specs.Lists.{all}
use Rattle.basics.proofs.Bool.{and_both}
use Rattle.basics.proofs.All.{All, end, more, all-at}
use Rattle.book.specs.Book.{Book, Section, letters, sections, contents_size, offset, size}
use Rattle.book.specs.Laid.{Laid, AllLaid}
use Rattle.book_contents.specs.Contents.{laid_from, laid_out, count_fits, counts_fit}

-- the section's entry stands in the contents
listed : Section → Bool
listed s = leb (8 * s.number + 8) contents_size

module _ (b : Book) where
  from_fits : (at : ℕ) (ss : List Section) → laid_from b at ss ≡ true → at ≤ length b
  unfolding laid_from
  from_fits at [] h = omega (arith, eqb-true at (length b) h)
  from_fits at (s ∷ ss) h =
      let r = and_both (eqb (offset b s) at) (laid_from b (at + s.size * size b s) ss) h in
      omega (arith, from_fits (at + s.size * size b s) ss r.1)

  from_laid : (at : ℕ) (ss : List Section) → contents_size ≤ length b → all ss listed ≡ true → laid_from b at ss ≡ true → all ss (count_fits b) ≡ true → All (Laid b) ss
  unfolding laid_from all count_fits listed
  from_laid at [] c l h k = end
  from_laid at (s ∷ ss) c l h k =
      let n = and_both (listed s) (all ss listed) l in
      let r = and_both (eqb (offset b s) at) (laid_from b (at + s.size * size b s) ss) h in
      let f = and_both (count_fits b s) (all ss (count_fits b)) k in
      more {a = s} (record {
        contents = omega (arith, leb-true (8 * s.number + 8) contents_size n.0);
        whole = omega (arith, eqb-true (offset b s) at r.0, from_fits (at + s.size * size b s) ss r.1);
        few = leb-true (size b s) s.most f.0;
      }) (from_laid (at + s.size * size b s) ss c n.1 r.1 f.1)

  sections_laid : laid_out b ≡ true → counts_fit b ≡ true → All (Laid b) sections
  unfolding laid_out counts_fit all listed
  sections_laid h k =
      let r = and_both (leb contents_size (length b)) (laid_from b contents_size sections) h in
      from_laid contents_size sections (leb-true contents_size (length b) r.0) refl r.1 k

  pub contents_stand : laid_out b ≡ true → contents_size ≤ length b
  unfolding laid_out
  contents_stand h = leb-true contents_size (length b) (and_both (leb contents_size (length b)) (laid_from b contents_size sections) h).0

  pub all_laid : laid_out b ≡ true → counts_fit b ≡ true → AllLaid b
  all_laid h k =
      let laid = sections_laid h k in
      record {
        letters_laid = all-at laid 0 letters (omega arith);
        names_laid = all-at laid 1 letters (omega arith);
        types_laid = all-at laid 2 letters (omega arith);
        constants_laid = all-at laid 3 letters (omega arith);
        functions_laid = all-at laid 4 letters (omega arith);
        axioms_laid = all-at laid 5 letters (omega arith);
        patterns_laid = all-at laid 6 letters (omega arith);
        terms_laid = all-at laid 7 letters (omega arith);
        contexts_laid = all-at laid 8 letters (omega arith);
        lists_laid = all-at laid 9 letters (omega arith);
      }

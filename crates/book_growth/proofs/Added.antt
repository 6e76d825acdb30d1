-- What stands behind the old records: new names' texts and new entries; one growth after another.
use Prim.Native.Nat.{ℕ, zero, suc, ◌+◌, ◌*◌, ◌≤◌, ◌<◌}
use native.Mathlib.Omega.{arith}
use mathlib.Core.Path.{◌≡◌, refl, ap, ◌∙◌}
use mathlib.Core.Bool.{true}
use mathlib.Core.List.{[], ◌++◌, append_assoc, append-nil}
use lib.ListN.{length, take, length-append}
use lib.Seq.{drop-append-add}
use Rattle.book.specs.Book.{Book, letters, names, constants, axioms, terms, contexts, lists, word, offset, size, field, entries, name_text}
use Rattle.book.specs.Laid.{section_at, section_count}
use Rattle.book.proofs.EachSection.{each_section}
use Rattle.book_contents.specs.Contents.{laid_out}
use Rattle.book_layout.specs.Layout.{body, count_of, field_in, entries_in, text_in, Bytes}
use Rattle.book_growth.specs.Growth.{Addition, added, grown_body, grown, nothing, ◌⊕◌, Whole, grows_within}
use Rattle.book_layout.proofs.Assembled.{letters_part}
use Rattle.book_layout.proofs.Whole.{length_body, assembled_body}
use Rattle.book_layout.proofs.Agree.{assembled_agree}
use Rattle.book_growth.proofs.Grown.{grown_fits, size_grown, body_grown, field_added}

-- an addition by the lengths of its parts
module _ (a : Addition) (n c t x l : ℕ) (hn : length a.names ≡ 8 * n) (hc : length a.constants ≡ 8 * c) (ht : length a.terms ≡ 28 * t)
    (hx : length a.contexts ≡ 12 * x) (hl : length a.lists ≡ 4 * l) where
  pub whole_by : Whole a
  unfolding added count_of
  whole_by =
      record {
        records =
            each_section (λ k. length (added a (section_at k)) ≡ (section_at k).size * count_of (added a) (section_at k)) (omega arith) (omega arith) (omega arith) (omega arith) (omega arith)
            (omega arith) (omega arith) (omega arith) (omega arith) (omega arith);
      }

-- how many records an addition brings
module _ (a : Addition) (k : ℕ) where
  pub letters_added : count_of (added a) letters ≡ length a.letters
  unfolding added count_of
  letters_added = omega arith

  pub names_added : length a.names ≡ 8 * k → count_of (added a) names ≡ k
  unfolding added count_of
  names_added h = omega arith

  pub constants_added : length a.constants ≡ 8 * k → count_of (added a) constants ≡ k
  unfolding added count_of
  constants_added h = omega arith

  pub axioms_added : count_of (added a) axioms ≡ 0
  unfolding added count_of
  axioms_added = refl

  pub terms_added : length a.terms ≡ 28 * k → count_of (added a) terms ≡ k
  unfolding added count_of
  terms_added h = omega arith

  pub contexts_added : length a.contexts ≡ 12 * k → count_of (added a) contexts ≡ k
  unfolding added count_of
  contexts_added h = omega arith

  pub lists_added : length a.lists ≡ 4 * k → count_of (added a) lists ≡ k
  unfolding added count_of
  lists_added h = omega arith

added_both : (a c : Addition) (n : ℕ) → n < section_count → added (a ⊕ c) (section_at n) ≡ added a (section_at n) ++ added c (section_at n)
unfolding added ◌⊕◌
added_both a c =
    each_section (λ n. added (a ⊕ c) (section_at n) ≡ added a (section_at n) ++ added c (section_at n)) refl refl refl refl refl refl refl refl refl refl

added_nothing : (n : ℕ) → n < section_count → added nothing (section_at n) ≡ []
unfolding added nothing
added_nothing = each_section (λ n. added nothing (section_at n) ≡ []) refl refl refl refl refl refl refl refl refl refl

pub grown_nothing : (b : Book) → laid_out b ≡ true → Bytes b → grown b nothing ≡ b
unfolding grown grown_body
grown_nothing b laid bytes =
    assembled_agree (grown_body b nothing) (body b) (λ n known. rw (added_nothing n known) (append-nil (body b (section_at n)))) ∙ assembled_body b laid bytes

-- a name without letters, wherever it starts
pub name_empty : (b : Book) (n : ℕ) → field b names n 1 ≡ 0 → name_text b n ≡ []
unfolding name_text
name_empty b n e = rw e

module _ (b : Book) (a : Addition) (laid : laid_out b ≡ true) (whole : Whole a) (fits : grows_within b a ≡ true) where
  pub grown_again : (c : Addition) → grown (grown b a) c ≡ grown b (a ⊕ c)
  unfolding grown grown_body
  grown_again c =
      assembled_agree (grown_body (grown b a) c) (grown_body b (a ⊕ c)) λ n known.
      let s = section_at n in
      rw (body_grown b a laid whole fits n known, added_both a c n known) (append_assoc (body b s) (added a s) (added c s))

  pub size_axioms : size (grown b a) axioms ≡ size b axioms
  size_axioms = omega (arith, size_grown b a laid whole fits 5 (omega arith), axioms_added a 0)

  entry_added : (i : ℕ) → i < count_of (added a) lists → field (grown b a) lists (size b lists + i) 0 ≡ word a.lists (4 * i)
  unfolding field_in added
  entry_added i h = let e : 4 * i + 4 * 0 ≡ 4 * i = omega arith in rw e at (field_added b a laid whole fits 9 (omega arith) i 0 h (omega arith))

  pub entries_added : (start count : ℕ) → start + count ≤ count_of (added a) lists → entries (grown b a) (size b lists + start) count ≡ entries_in a.lists start count
  unfolding entries entries_in
  entries_added start zero h = refl
  entries_added start (suc count) h =
      let s : suc (size b lists + start) ≡ size b lists + suc start = omega arith in
      rw (entry_added start (omega arith), s, entries_added (suc start) count (omega arith))

  -- a part of the new letters
  text_added : (start count : ℕ) → start + count ≤ length a.letters → text_in (grown b a) (offset (grown b a) letters + (size b letters + start)) count ≡ text_in a.letters start count
  unfolding grown grown_body added
  text_added start count h =
      let l : length (body b letters) ≡ size b letters = omega (arith, length_body b laid 0 (omega arith)) in
      letters_part (grown_body b a) (grown_fits b a laid whole fits) (size b letters + start) count (omega (arith, length-append (body b letters) a.letters))
      ∙ ap (take count) (rw (← l) (drop-append-add (body b letters) a.letters start))

  -- a new name whose letters are new
  pub name_added : (k start count : ℕ) → k < count_of (added a) names → field_in a.names names k 0 ≡ size b letters + start → field_in a.names names k 1 ≡ count
      → start + count ≤ length a.letters → name_text (grown b a) (size b names + k) ≡ text_in a.letters start count
  unfolding name_text added
  name_added k start count h e0 e1 ends =
      let f0 : field (grown b a) names (size b names + k) 0 ≡ size b letters + start = field_added b a laid whole fits 1 (omega arith) k 0 h (omega arith) ∙ e0 in
      let f1 : field (grown b a) names (size b names + k) 1 ≡ count = field_added b a laid whole fits 1 (omega arith) k 1 h (omega arith) ∙ e1 in
      rw (f0, f1) (text_added start count ends)

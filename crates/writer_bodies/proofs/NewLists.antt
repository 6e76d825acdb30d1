-- append_term's lists: the numbers that are handed over as bytes, as the new book reads them, and what they stand for.
use Prim.Native.Nat.{ℕ, zero, suc, ◌+◌, ◌*◌, ◌/◌, ◌≤◌, ◌<◌}
use native.Mathlib.Omega.{arith}
use mathlib.Core.Path.{◌≡◌, refl, sym, ap, subst, ◌∙◌}
use mathlib.Core.List.{List, [], append-nil}
use lib.ListN.{length, take, drop, take-append-drop}
use Rattle.basics.proofs.All.{All, end, more}
use Rattle.book.specs.Book.{Book, patterns, terms, lists, size, field, entries}
use Rattle.book.specs.Decode.{to_rexprs, to_rpatterns, args_of, pattern_of, term}
use Rattle.book_test.specs.Promise.{Range, GoodPattern}
use Rattle.book_test.proofs.Entries.{entries_each}
use Rattle.book_test.proofs.TermLaw.{children_agree}
use Rattle.book_layout.specs.Layout.{count_of, entries_in}
use Rattle.book_layout.proofs.Stands.{Stands, stands_fits, stands_word, stands_first}
use Rattle.book_growth.specs.Growth.{added}
use Rattle.book_growth.proofs.Grown.{size_grown}
use Rattle.book_growth.proofs.Added.{entries_added}
use Rattle.book_test.proofs.KeptRecords.{entries_kept}
use Rattle.new_records.specs.Drafts.{Draft, range_start, addition_from}
use Rattle.book_writer.specs.Growths.{entry_count, whole_entries}
use Rattle.book_writer.proofs.Recorded.{whole_fours}
use Rattle.writer_bodies.specs.Records.{numbers}
use Rattle.writer_bodies.proofs.Drafted.{book_with, Grew, old_laid, kept, old_term, new_promise, old_promise, patterns_new}

-- ---- numbers that are handed over as bytes
-- read from a part of the bytes, or from all of them
entries_part : {bytes part : List ℕ} (behind : ℕ) → Stands bytes (4 * behind) part → (start count : ℕ) → 4 * (start + count) ≤ length part
    → entries_in bytes (behind + start) count ≡ entries_in part start count
unfolding entries_in
entries_part behind s start zero h = refl
entries_part behind s start (suc count) h =
    let e : 4 * (behind + start) ≡ 4 * behind + 4 * start = omega arith in
    let z : suc (behind + start) ≡ behind + suc start = omega arith in
    rw (e, stands_word s (4 * start) (omega arith), z, entries_part behind s (suc start) count (omega arith))

whole_stands : (xs : List ℕ) → Stands xs 0 (whole_entries xs)
unfolding whole_entries
whole_stands xs = let n = 4 * entry_count xs in subst (λ (l : List ℕ). Stands l 0 (take n xs)) (take-append-drop n xs) (stands_first (take n xs) (drop n xs))

whole_numbers : (xs : List ℕ) → entries_in (whole_entries xs) 0 (entry_count xs) ≡ numbers xs
unfolding numbers
whole_numbers xs = sym (entries_part 0 (whole_stands xs) 0 (entry_count xs) (omega (arith, whole_fours xs)))

stands_whole : {xs ys : List ℕ} → xs ≡ ys → Stands xs 0 ys
stands_whole {xs} {ys} e = record { before = []; after = []; is = e ∙ sym (append-nil ys); place = refl }

module _ (b : Book) (d : Draft) (G : Grew b d) where
  pub lists_few : size b lists + length d.lists / 4 ≤ 2048
  unfolding added addition_from count_of
  lists_few =
      omega (
        arith,
        size_grown b (addition_from b d) (old_laid b d G) G.whole G.within 9 (omega arith),
        (new_promise b d G).lists_laid.few,
      )

  -- a new range, behind the new entries before it
  pub range_is : (behind from start count : ℕ) (xs : List ℕ) → Stands d.lists (4 * behind) (whole_entries xs) → from ≡ size b lists + behind → start ≡ range_start from (entry_count xs)
      → count ≡ entry_count xs → entries (book_with b d) start count ≡ numbers xs
  unfolding added addition_from count_of range_start entries entries_in
  range_is behind from start count xs s ef es ec = ap (entries (book_with b d) start) ec ∙ by (entry_count xs) refl es ∙ whole_numbers xs
    where
      by : (n : ℕ) → entry_count xs ≡ n → start ≡ range_start from n → entries (book_with b d) start n ≡ entries_in (whole_entries xs) 0 n
      by zero q f = refl
      by (suc n) q f =
          let z : behind ≡ behind + 0 = omega arith in
          ap (λ (k : ℕ). entries (book_with b d) k (suc n)) (f ∙ ef)
          ∙ entries_added b (addition_from b d) (old_laid b d G) G.whole G.within behind (suc n) (omega (arith, stands_fits s, whole_fours xs))
          ∙ ap (λ (k : ℕ). entries_in d.lists k (suc n)) z ∙ entries_part behind s 0 (suc n) (omega (arith, whole_fours xs))

  -- arguments below the new term
  args_same : (start count : ℕ) → Range (book_with b d) (size b terms) start count → args_of (book_with b d) (term (book_with b d)) start count ≡ to_rexprs (term b) (entries (book_with b d) start count)
  unfolding args_of
  args_same start count r = children_agree (size b terms) _ _ (old_term b d G) (entries_each (book_with b d) (λ x. x < size b terms) start count r.below)

  pattern_same : (p : ℕ) → GoodPattern (book_with b d) (size b terms) p → pattern_of (book_with b d) (term (book_with b d)) p ≡ pattern_of b (term b) p
  unfolding pattern_of
  pattern_same p g =
      let c = book_with b d in
      let here : p < size b patterns = omega (arith, g.here, patterns_new b d G) in
      let f0 = (kept b d G).fields 6 (omega arith) p 0 here (omega arith) in
      let f1 = (kept b d G).fields 6 (omega arith) p 1 here (omega arith) in
      args_same (field c patterns p 0) (field c patterns p 1) g.range
      ∙ unfold args_of in rw (f0, f1, entries_kept b c (old_promise b d G) (kept b d G) (field b patterns p 0) (field b patterns p 1) ((old_promise b d G).pattern p here).range.ends)

  pub patterns_same : {ps : List ℕ} → All (GoodPattern (book_with b d) (size b terms)) ps
      → to_rpatterns (pattern_of (book_with b d) (term (book_with b d))) ps ≡ to_rpatterns (pattern_of b (term b)) ps
  unfolding to_rpatterns
  patterns_same end = refl
  patterns_same (more {a = p} h hs) = rw (pattern_same p h, patterns_same hs)

  -- the arguments of an application, all there is in the new entries
  pub args_are : (start count : ℕ) (xs : List ℕ) → d.lists ≡ whole_entries xs → Range (book_with b d) (size b terms) start count → start ≡ range_start (size b lists) (entry_count xs)
      → count ≡ entry_count xs → args_of (book_with b d) (term (book_with b d)) start count ≡ to_rexprs (term b) (numbers xs)
  args_are start count xs l r es ec =
      args_same start count r ∙ ap (to_rexprs (term b)) (range_is 0 (size b lists) start count xs (stands_whole l) (omega arith) es ec)

-- The answer of a call of the writer: a refusal, or the new book.
use Rattle.std.specs.Prelude.{Ok, Err}
use Prim.Native.Nat.{ℕ, ◌≤◌, ◌<◌}
use native.Mathlib.Omega.{arith}
use mathlib.Core.Path.{◌≡◌, refl, sym, ap, ◌∙◌}
use mathlib.Core.Bool.{Bool, true, false, not}
use mathlib.Core.List.{List}
use lib.ListN.{length, take}
use lib.Seq.{length-take-le}
use borrow.Author.Tests.{lt-ltb, le-ltb}
use Rattle.basics.specs.Outcome.{Outcome, refused, accepted, refuse, ◌>>◌, map_outcome}
use Rattle.basics.specs.Buffer.{buffer_after}
use Rattle.basics.specs.Write.{Wrote, overlay_at, WroteAt}
use Rattle.basics.proofs.Laws.{take_overlay}
use Rattle.basics.proofs.Places.{at_length}
use Rattle.book.specs.Refusal.{number}
use Rattle.book.specs.declared.Refusal.{Refusal}
use Rattle.book.specs.declared.Refusal.TheVariants.{CountOverLimit, FieldOutOfRange, BufferTooShort}
use Rattle.book.specs.Book.{Book}
use Rattle.book_test.specs.BookTest.{book_test, tested_value, book_test_call}
use Rattle.book_test.proofs.Answers.{ready_long}
use Rattle.book_layout.specs.Layout.{book_most}
use Rattle.book_growth.specs.Growth.{Addition, grown, grows_within}
use Rattle.book_writer.specs.Writing.{Grown, Answer, numbers, book_of, appended_value}
use Rattle.book_writer.specs.Coded.{Spare, Tried, fitted, deliver, append_in, Copied, Appends}

copied_refused : {o : Outcome Grown} (why : Refusal) (t : List ℕ) → o ≡ refused (number why) → Copied o (Err why) t t
unfolding appended_value map_outcome buffer_after
copied_refused why t e = record { answer = rw e; buffer = rw e }

pub refused_with : {o : Outcome Grown} (why : Refusal) (t s : List ℕ) → o ≡ refused (number why) → Appends o (Err why) t t s s
refused_with why t s e = record { copied = copied_refused why t e; scratch = refl }

-- ---- a new book that passed its test: it fits, or not
pub copied_short : (c : Book) (n : ℕ) {t : List ℕ} → length t < length c → Copied (fitted c n (length t)) (Err BufferTooShort) t t
copied_short c n {t} h =
    let short : fitted c n (length t) ≡ refused (number BufferTooShort) = unfold fitted refuse ◌>>◌ number in rw (lt-ltb (length t) (length c) h) in
    copied_refused BufferTooShort t short

pub copied_whole : (c : Book) (n : ℕ) {t t' : List ℕ} {k : ℕ} → length c ≤ length t → Wrote c t t' k → Copied (fitted c n (length t)) (Ok (record { number = n; length = length c })) t t'
unfolding appended_value map_outcome buffer_after numbers book_of
copied_whole c n {t} h w =
    let fits : fitted c n (length t) ≡ accepted (record { number = n; book = c }) = unfold fitted refuse ◌>>◌ in rw (le-ltb (length t) (length c) h) in
    record { answer = rw fits; buffer = rw fits w.shown }

deliver_stops : (c : Book) (n room : ℕ) {k : ℕ} → book_test c ≡ refused k → deliver c n room ≡ refused k
unfolding deliver ◌>>◌
deliver_stops c n room e = rw e

-- ---- of the new book, with the scratch that the first test left
module _ (c : Book) (s : List ℕ) (S : Spare s) {s1 : List ℕ} where
  clean_again : s1 ≡ (book_test_call c s).scratch → s1 ≡ s
  unfolding book_test_call
  clean_again e = e ∙ S.clean

  pub test_refused : {why : Refusal} {r : Answer} (n : ℕ) (t : List ℕ) → Tried c s (Err why) s1 → r ≡ Err why → Appends (deliver c n (length t)) r t t s s1
  unfolding book_test_call tested_value
  test_refused {why} n t T e =
      rw (e, clean_again T.1) (refused_with why t s (deliver_stops c n (length t) (sym (T.0 ∙ sym (ready_long c (length s) S.long)))))

  pub test_good : (n room : ℕ) {r : Answer} {t t' : List ℕ} → Tried c s (Ok tt) s1 → Copied (fitted c n room) r t t' → Appends (deliver c n room) r t t' s s1
  unfolding book_test_call tested_value deliver ◌>>◌
  test_good n room T a =
      let ok : book_test c ≡ accepted tt = sym (T.0 ∙ sym (ready_long c (length s) S.long)) in
      record { copied = rw ok a; scratch = clean_again T.1 }

-- ---- behind refusal 7
module _ (b : Book) (a : Addition) (right : Bool) (n : ℕ) (t s : List ℕ) where
  pub over_limit : {w : Bool} → w ≡ grows_within b a → not w ≡ true → Appends (append_in b a right n (length t)) (Err CountOverLimit) t t s s
  over_limit {w} e h =
      let stopped : append_in b a right n (length t) ≡ refused (number CountOverLimit) = unfold append_in refuse ◌>>◌ number in rw (← e, h) in
      refused_with CountOverLimit t s stopped

  pub handed_wrong : grows_within b a ≡ true → not right ≡ true → Appends (append_in b a right n (length t)) (Err FieldOutOfRange) t t s s
  handed_wrong e h =
      let stopped : append_in b a right n (length t) ≡ refused (number FieldOutOfRange) = unfold append_in refuse ◌>>◌ number in rw (e, h) in
      refused_with FieldOutOfRange t s stopped

  pub handed-right : {r : Answer} {t' s' : List ℕ} → grows_within b a ≡ true → not right ≡ false → Appends (deliver (grown b a) n (length t)) r t t' s s' → Appends (append_in b a right n (length t)) r t t' s s'
  unfolding append_in refuse ◌>>◌
  handed-right e h x = rw (e, h) x

-- ---- the new book in its buffer
module _ {c o o' : List ℕ} {r : ℕ} (w : WroteAt c 0 o o' r) (few : length c ≤ book_most) (room : length o ≡ book_most) where
  laid_length : r ≡ length c
  laid_length = omega (arith, w.counted)

  pub laid_fits : r ≤ length o'
  laid_fits = omega (arith, laid_length, at_length w)

  pub laid_part : r ≡ length (take r o')
  laid_part = sym (length-take-le r o' laid_fits)

  pub laid_whole : take r o' ≡ c
  unfolding overlay_at
  laid_whole = rw (laid_length, w.shown) (take_overlay c o (omega arith))

pub laid_as : {c d : Book} (n room : ℕ) {r : Answer} {t t' s s' : List ℕ} → d ≡ c → Appends (deliver d n room) r t t' s s' → Appends (deliver c n room) r t t' s s'
laid_as n room e a = rw e at a

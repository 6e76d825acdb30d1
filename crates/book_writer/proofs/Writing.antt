-- An accepted call of the writer gives a book that grew, and the host takes it whole.
use Prim.Native.Nat.{ℕ, ◌≤◌}
use native.Mathlib.Omega.{arith}
use mathlib.Core.Path.{◌≡◌, refl, ap, subst}
use mathlib.Core.Bool.{true, false, not}
use lib.Dec.{ltb}
use lib.ListN.{length}
use borrow.Author.Tests.{ltb-false, not-false}
use Rattle.basics.specs.Outcome.{Outcome, refused, accepted, map_outcome}
use Rattle.basics.specs.Buffer.{buffer_after}
use Rattle.basics.proofs.Laws.{take_overlay}
use Rattle.book.specs.Book.{Book}
use Rattle.book_test.specs.BookTest.{book_test, ready}
use Rattle.book_test.proofs.Outcomes.{passed, both, same_answer, ready_passed, test_passed}
use Rattle.book_test.specs.Kept.{Kept}
use Rattle.book_growth.specs.Growth.{Addition, grown, grows_within, Whole}
use Rattle.book_growth.specs.Grows.{Grows}
use Rattle.book_growth.proofs.Grown.{grown_kept}
use Rattle.book_growth.proofs.GrownProgram.{grown_term, grown_program}
use Rattle.book_writer.specs.Growths.{Growth, addition_of, number_of, outside, handed_right}
use Rattle.book_writer.specs.Writing.{Grown, grow, OldKept, Lent, numbers, book_of, grown_left, outcome_of, grow_call, newest, write, took_by, took}
use Rattle.book_writer.proofs.Recorded.{addition_whole}

-- an addition within the limits makes a book grow, if the new book passes the test
pub grown_grows : (b : Book) (a : Addition) → book_test b ≡ accepted tt → Whole a → grows_within b a ≡ true → book_test (grown b a) ≡ accepted tt → Grows b (grown b a)
grown_grows b a ok w fits ok' =
    record { before = ok; after = ok'; extends = grown_program b a ok w fits; kept = grown_term b a ok w fits }

-- what the steps of an accepted call tell
pub record Told (b : Book) (g : Growth) (room : ℕ) (x : Grown) : Type 0 where
  pub before : book_test b ≡ accepted tt
  pub inside : outside b g ≡ false
  pub within : grows_within b (addition_of b g) ≡ true
  pub after : book_test (grown b (addition_of b g)) ≡ accepted tt
  pub fits : length (grown b (addition_of b g)) ≤ room
  pub number : number_of b g ≡ x.number
  pub book : grown b (addition_of b g) ≡ x.book

pub grow_told : (scratch : ℕ) (b : Book) (g : Growth) (room : ℕ) (x : Grown) → grow scratch b g room ≡ accepted x → Told b g room x
unfolding grow
grow_told scratch b g room x e =
    let a = addition_of b g in
    let c = grown b a in
    let r1 = both (ready scratch b) _ e in
    let r7 = passed 7 (outside b g) _ r1.1 in
    let r3 = passed 3 (not (grows_within b a)) _ r7.1 in
    let r4 = passed 4 (not (handed_right g)) _ r3.1 in
    let r6 = both (book_test c) _ r4.1 in
    let r10 = passed 10 (ltb room (length c)) _ r6.1 in
    record {
      before = (ready_passed scratch b r1.0).1;
      inside = r7.0;
      within = not-false (grows_within b a) r3.0;
      after = r6.0;
      fits = ltb-false room (length c) r10.0;
      number = ap (λ (z : Grown). z.number) (same_answer r10.1);
      book = ap (λ (z : Grown). z.book) (same_answer r10.1);
    }

-- what an accepted call keeps
record Passed (b : Book) (room : ℕ) (x : Grown) : Type 0 where
  grows : Grows b x.book
  records : Kept b x.book
  fits : length x.book ≤ room

grow_passed : (scratch : ℕ) (b : Book) (g : Growth) (room : ℕ) (x : Grown) → grow scratch b g room ≡ accepted x → Passed b room x
grow_passed scratch b g room x e =
    let a = addition_of b g in
    let T = grow_told scratch b g room x e in
    let h : Grows b (grown b a) = grown_grows b a T.before (addition_whole b g) T.within T.after in
    let k : Kept b (grown b a) = grown_kept b a (test_passed b T.before).laid (addition_whole b g) T.within in
    record { grows = subst (Grows b) T.book h; records = subst (Kept b) T.book k; fits = subst (λ (d : Book). length d ≤ room) T.book T.fits }

-- every old record stands in the new book under its number, every old term is what it was, and the program extends
pub grow_kept : (scratch : ℕ) (b : Book) (g : Growth) (room : ℕ) (x : Grown) → grow scratch b g room ≡ accepted x → OldKept b x.book
grow_kept scratch b g room x e = let p = grow_passed scratch b g room x e in record { grows = p.grows; records = p.records }

outcome_passed : (b : Book) (x : Lent) (y : Grown) → outcome_of b x ≡ accepted y → Passed b (length x.buffer) y
unfolding outcome_of
outcome_passed b x y e = grow_passed (length x.scratch) b x.growth (length x.buffer) y e

grew : (b : Book) (x : Lent) (o : Outcome Grown) → outcome_of b x ≡ o → (c : Book) → map_outcome book_of o ≡ accepted c → Grows b c
unfolding map_outcome book_of newest
grew b x (refused k) e c f = let z : ◌≡◌ {A = ℕ} 0 1 = cc in absurd (omega arith)
grew b x (accepted y) e c f = subst (Grows b) (ap (newest b) f) (outcome_passed b x y e).grows

pub write_grows : (b : Book) (x : Lent) (c : Book) → write b x ≡ accepted c → Grows b c
unfolding write
write_grows b x c e = grew b x (outcome_of b x) refl c e

takes : (b : Book) (x : Lent) (o : Outcome Grown) → outcome_of b x ≡ o → took b (grown_left o x.buffer x.scratch) ≡ newest b (map_outcome book_of o)
unfolding took took_by grown_left map_outcome buffer_after numbers book_of newest
takes b x (refused k) e = refl
takes b x (accepted y) e = take_overlay y.book x.buffer (outcome_passed b x y e).fits

pub took_newest : (b : Book) (x : Lent) → took b (grow_call b x) ≡ newest b (write b x)
unfolding grow_call write
took_newest b x = takes b x (outcome_of b x) refl

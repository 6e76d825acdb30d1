-- A call on bytes that are no image is refused: an accepted one finds an image, and can write over it.
use Prim.Native.Nat.{ℕ}
use native.Mathlib.Omega.{arith}
use mathlib.Core.Path.{◌≡◌, refl, sym}
use mathlib.Core.Bool.{Bool, true, false, not}
use mathlib.Core.List.{List}
use lib.ListN.{length}
use borrow.Author.Tests.{not-false}
use Rattle.basics.specs.Outcome.{Outcome, refused, accepted, refuse, ◌>>◌, map_outcome}
use Rattle.book.specs.Book.{Book}
use Rattle.book.specs.Decode.{program}
use Rattle.book_test.specs.BookTest.{book_test, ready}
use Rattle.book_test.proofs.Outcomes.{passed, both, ready_passed}
use Rattle.book_test.proofs.Promise.{promise}
use Rattle.solvers.specs.declared.Session.{Session}
use Rattle.solvers.specs.Session.{Written}
use Rattle.solvers.specs.Calls.{is_session, move_call, ask_call, reply_call, model_call, Call, move_to, ask_for, reply_with, model_with, call}
use Rattle.solvers.specs.Left.{Values, values, left, called}
use Rattle.solvers.specs.Image.{image_size, is_image, read_image, called_on_image}
use Rattle.solvers.proofs.IsSession.{none}
use Rattle.images.proofs.Reading.{image_long, read_none}

-- the book passed its test, and the session test 20
record Tested (b : Book) (s : Session) : Type 0 where
  book : book_test b ≡ accepted tt
  session : is_session (program b) s ≡ true

tested : (b : Book) (s : Session) (n : ℕ) {w : Written} (rest : Outcome Written) → ready n b ≡ accepted tt → (refuse 20 (not (is_session (program b) s)) >> rest) ≡ accepted w → Tested b s
tested b s n rest e f = record { book = (ready_passed n b e).1; session = not-false (is_session (program b) s) (passed 20 (not (is_session (program b) s)) rest f).0 }

call_tested : (b : Book) (s : Session) (c : Call) {w : Written} → call b s c ≡ accepted w → Tested b s
unfolding call move_call ask_call reply_call model_call
call_tested b s (move_to h n) e = let r = both (ready (length h.scratch) b) _ e in tested b s _ _ r.0 (passed 7 _ _ r.1).1
call_tested b s (ask_for h n t) e = let r = both (ready (length h.scratch) b) _ e in tested b s _ _ r.0 (passed 7 _ _ r.1).1
call_tested b s (reply_with h ok t) e = let r = both (ready (length h.scratch) b) _ e in tested b s _ _ r.0 r.1
call_tested b s (model_with h t m) e = let r = both (ready (length h.scratch) b) _ e in tested b s _ _ r.0 r.1

was_accepted : (o : Outcome Written) {v : Values} → map_outcome values o ≡ accepted v → (w : Written) × (o ≡ accepted w)
unfolding map_outcome
was_accepted (refused k) e = let z : ◌≡◌ {A = ℕ} 0 1 = cc in absurd (omega arith)
was_accepted (accepted w) e = (w, refl)

pub accepted_long : (b : Book) (image : List ℕ) (c : Call) (v : Values) → (called_on_image b image c).answer ≡ accepted v → length image ≡ image_size
unfolding called_on_image called left
accepted_long b image c v e = at (is_image image) refl
  where
    at : (x : Bool) → is_image image ≡ x → length image ≡ image_size
    at true h = image_long image h
    at false h =
        let t = call_tested b (read_image image) c (was_accepted (call b (read_image image) c) e).1 in
        absurd (none b (promise b t.book) (rw (sym (read_none image h refl)) at t.session))

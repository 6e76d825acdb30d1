-- A turn on images: the book, the room for just an image, and then the turn of the session that the other image holds.
use Prim.Native.Nat.{ℕ}
use mathlib.Core.Path.{◌≡◌, refl, sym, ap, ◌∙◌}
use mathlib.Core.Bool.{not}
use mathlib.Core.List.{List}
use lib.Dec.{eqb}
use lib.ListN.{length}
use borrow.Author.Tests.{eq-eqb, ne_eqb}
use Rattle.std.specs.Prelude.{Result, Ok, Err}
use Rattle.basics.specs.Outcome.{Outcome, refuse, ◌>>◌}
use Rattle.basics.specs.Buffer.{buffer_after, scratch_after}
use Rattle.basics.proofs.Laws.{overlay_whole}
use Rattle.book.specs.Book.{Book}
use Rattle.book.specs.Refusal.{number}
use Rattle.book.specs.declared.Refusal.{Refusal}
use Rattle.book.specs.declared.Refusal.TheVariants.{NoSession}
use Rattle.book_test.specs.BookTest.{ready, tested_value, book_test_call}
use Rattle.solvers.specs.Image.{image_size, write_image, read_image}
use Rattle.solvers.specs.Narrow.{widened, narrowed, narrow_size, write_narrow, read_narrow, answer_of, TurnLeft, widened_into, narrowed_into, widened_on_image, narrowed_on_image}
use Rattle.solvers.specs.Returned.{outcome_of}
use Rattle.solvers.proofs.Returned.{stops, passes}
use Rattle.narrow_sessions.specs.Turned.{widened_in, narrowed_in, ImageTurned}

-- what a turn leaves, by the outcome o of the turn behind the book test
unfoldable pub left_by : {S : Type 0} → Book → (size : ℕ) → (S → List ℕ) → Outcome S → (scratch buffer : List ℕ) → TurnLeft
left_by b size write o scratch buffer =
    let into = (do ready (length scratch) b; refuse 20 (not (eqb (length buffer) size)); ready (length scratch) b; o) in
    record { answer = answer_of into; image = buffer_after into write buffer; scratch = scratch_after scratch }

module _ {S : Type 0} (b : Book) (size : ℕ) (write : S → List ℕ) (o : Outcome S) (scratch buffer : List ℕ) {l : TurnLeft} (is : left_by b size write o scratch buffer ≡ l)
    {d : Result (Unit {0}) Refusal} {scratch' : List ℕ} (h : (tested_value d ≡ (book_test_call b scratch).answer) × (scratch' ≡ (book_test_call b scratch).scratch)) where
  pub stopped : {why : Refusal} → d ≡ Err why → ImageTurned l (Err why) buffer scratch'
  unfolding left_by ◌>>◌ answer_of buffer_after outcome_of tested_value book_test_call
  stopped e = let t = stops b scratch h.0 e in rw (sym is) (record { answer = rw t; image'' = rw t; scratch'' = h.1 })

  module _ {u : Unit {0}} (e : d ≡ Ok u) where
    pub no_room : ¬ (length buffer ≡ size) → ImageTurned l (Err NoSession) buffer scratch'
    unfolding left_by refuse ◌>>◌ answer_of buffer_after outcome_of tested_value book_test_call number
    no_room k = let t = passes b scratch h.0 e in let f = ne_eqb (length buffer) size k in rw (sym is) (record { answer = rw (t, f); image'' = rw (t, f); scratch'' = h.1 })

    module _ (k : length buffer ≡ size) {r : Result S Refusal} (g : outcome_of r ≡ o) where
      pub not_turned : {why : Refusal} → r ≡ Err why → ImageTurned l (Err why) buffer scratch'
      unfolding left_by refuse ◌>>◌ answer_of buffer_after outcome_of tested_value book_test_call
      not_turned q =
          let t = passes b scratch h.0 e in
          let f = eq-eqb (length buffer) size k in
          let x = sym g ∙ ap outcome_of q in
          rw (sym is) (record { answer = rw (t, f, x); image'' = rw (t, f, x); scratch'' = h.1 })

      pub turned : {s : S} {buffer' : List ℕ} → r ≡ Ok s → length (write s) ≡ size → buffer' ≡ write s → ImageTurned l (Ok tt) buffer' scratch'
      unfolding left_by refuse ◌>>◌ answer_of buffer_after outcome_of tested_value book_test_call
      turned {s} q long w =
          let t = passes b scratch h.0 e in
          let f = eq-eqb (length buffer) size k in
          let x = sym g ∙ ap outcome_of q in
          rw (sym is) (record { answer = rw (t, f, x); image'' = w ∙ rw (t, f, x) (sym (overlay_whole (write s) buffer (long ∙ sym k))); scratch'' = h.1 })

pub widens : (b : Book) (scratch narrow image : List ℕ) → left_by b image_size write_image (widened_in b (read_narrow narrow)) scratch image ≡ widened_on_image b scratch narrow image
unfolding left_by widened_on_image widened_into widened widened_in
widens b scratch narrow image = refl

pub narrows : (b : Book) (scratch image narrow : List ℕ) → left_by b narrow_size write_narrow (narrowed_in b (read_image image)) scratch narrow ≡ narrowed_on_image b scratch image narrow
unfolding left_by narrowed_on_image narrowed_into narrowed narrowed_in
narrows b scratch image narrow = refl

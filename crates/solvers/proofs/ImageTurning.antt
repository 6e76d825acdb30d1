-- The turns of images: what one has written the other turns back into the bytes that it came from.
use Prim.Native.Nat.{ℕ, suc, ◌≤◌}
use native.Mathlib.Omega.{arith}
use mathlib.Core.Path.{◌≡◌, refl, sym, ap, ◌∙◌}
use mathlib.Core.Bool.{Bool, true, false, not}
use mathlib.Core.List.{List, [], ◌∷◌}
use lib.Dec.{eqb}
use lib.ListN.{length}
use borrow.Author.Tests.{eqb-true, eq-eqb, not-false}
use Rattle.basics.specs.Buffer.{scratch_least, buffer_after}
use Rattle.basics.specs.Outcome.{Outcome, refused, accepted, refuse, ◌>>◌}
use Rattle.basics.proofs.All.{All, end, more}
use Rattle.basics.proofs.Laws.{overlay_whole}
use Rattle.book.specs.Book.{Book}
use Rattle.book_test.specs.BookTest.{ready}
use Rattle.book_test.specs.Promise.{Promise}
use Rattle.book_test.proofs.Outcomes.{passed, both, ready_passed}
use Rattle.book_test.proofs.Promise.{promise}
use Rattle.rsolver.specs.LevelState.{level_count}
use Rattle.solvers.specs.declared.Session.{Session}
use Rattle.solvers.specs.declared.NarrowSession.{NarrowSession}
use Rattle.solvers.specs.Image.{image_size, write_image, is_image, read_image}
use Rattle.solvers.specs.Narrow.{narrow_size, wide_of, narrow_of, widened, narrowed, write_narrow, no_narrow, is_narrow_image, read_narrow, answer_of, widened_into, narrowed_into, widened_on_image, narrowed_on_image, Bytes, ImageTurns}
use Rattle.solvers.proofs.LevelBytes.{Byte}
use Rattle.solvers.proofs.Image.{Imaged, length_written, read_written, written_read}
use Rattle.solvers.proofs.NarrowImage.{NarrowImaged, length_narrow, read_written_narrow, written_read_narrow}
use Rattle.solvers.proofs.IsSession.{imaged, none}
use Rattle.solvers.proofs.Turning.{Turnable, widened_told, narrowed_told, widens, narrows, turnable_again}

all_bytes : (xs : List ℕ) → Bytes xs → All Byte xs
all_bytes [] h = end
all_bytes (x ∷ xs) h = more (h 0 (omega arith)) (all_bytes xs (λ i l. h (suc i) (omega arith)))

pub was_accepted : {A : Type 0} (o : Outcome A) → answer_of o ≡ accepted tt → (a : A) × (o ≡ accepted a)
unfolding answer_of
was_accepted (refused n) e = let z : ◌≡◌ {A = ℕ} 0 1 = cc in absurd (omega arith)
was_accepted (accepted a) e = (a, refl)

-- a session with an image of the wide kind has one of the narrow kind
imaged_narrow : (w : Session) → Imaged w → NarrowImaged (narrow_of w)
unfolding narrow_of
imaged_narrow w h = record { node = h.node; goal = h.goal; levels = h.levels }

module _ (b : Book) (scratch : ℕ) where
  -- an accepted turn found room for just an image, and one that finds it is the turn itself
  pub widened_room : (room : ℕ) (s : NarrowSession) (w : Session) → widened_into scratch room b s ≡ accepted w → (room ≡ image_size) × (widened scratch b s ≡ accepted w)
  unfolding widened_into
  widened_room room s w e =
      let r = passed 20 (not (eqb room image_size)) _ (both (ready scratch b) _ e).1 in (eqb-true room image_size (not-false (eqb room image_size) r.0), r.1)

  pub narrowed_room : (room : ℕ) (w : Session) (s : NarrowSession) → narrowed_into scratch room b w ≡ accepted s → (room ≡ narrow_size) × (narrowed scratch b w ≡ accepted s)
  unfolding narrowed_into
  narrowed_room room w s e =
      let r = passed 20 (not (eqb room narrow_size)) _ (both (ready scratch b) _ e).1 in (eqb-true room narrow_size (not-false (eqb room narrow_size) r.0), r.1)

  in_room : {A : Type 0} (room size : ℕ) (o : Outcome A) (a : A) → ready scratch b ≡ accepted tt → room ≡ size → o ≡ accepted a
      → (do ready scratch b; refuse 20 (not (eqb room size)); o) ≡ accepted a
  unfolding refuse ◌>>◌
  in_room room size o a t l e = rw (t, eq-eqb room size l, e)

  module _ (w : Session) (t : Turnable b scratch w) where
    holds : Promise b
    holds = promise b (ready_passed scratch b t.tested).1

    pub turned_imaged : Imaged w
    turned_imaged = imaged b holds w t.session

  -- what is turned was an image
  from_narrow : (image : List ℕ) → Turnable b scratch (wide_of (read_narrow image)) → is_narrow_image image ≡ true
  unfolding read_narrow no_narrow wide_of narrow_of
  from_narrow image t = at (is_narrow_image image) refl
    where
      at : (x : Bool) → is_narrow_image image ≡ x → x ≡ true
      at true e = refl
      at false e = absurd (none b (holds _ t) (rw e at t.session))

  from_wide : (image : List ℕ) → Turnable b scratch (read_image image) → is_image image ≡ true
  unfolding read_image
  from_wide image t = at (is_image image) refl
    where
      at : (x : Bool) → is_image image ≡ x → x ≡ true
      at true e = refl
      at false e = absurd (none b (holds _ t) (rw e at t.session))

module _ (b : Book) where
  -- wide and back
  module _ (scratch narrow image again other : List ℕ) (bytes : Bytes narrow) (enough : scratch_least ≤ length again) (long : length other ≡ narrow_size) where
    back_by : (w : Session) → widened_into (length scratch) (length image) b (read_narrow narrow) ≡ accepted w
        → let l = narrowed_on_image b again (widened_on_image b scratch narrow image).image other in (l.answer ≡ accepted tt) × (l.image ≡ narrow)
    unfolding widened_on_image narrowed_on_image narrowed_into answer_of buffer_after wide_of narrow_of
    back_by w a =
        let n = length scratch in
        let m = length again in
        let s = read_narrow narrow in
        let r = widened_room b n (length image) s w a in
        let t = widened_told b n s w r.1 in
        let i = turned_imaged b n w t.0 in
        let is = from_narrow b n narrow (rw (sym t.1) at t.0) in
        let there : buffer_after (widened_into n (length image) b s) write_image image ≡ write_image w = rw a (overlay_whole (write_image w) image (length_written w i.levels ∙ sym r.0)) in
        let u = turnable_again b n m enough w t.0 in
        let back : narrowed m b w ≡ accepted s = rw (sym t.1) (narrows b m (wide_of s) (rw (sym t.1) at u)) in
        let turned : narrowed_into m (length other) b (read_image (write_image w)) ≡ accepted s =
        rw (read_written w i) (in_room b m (length other) narrow_size (narrowed m b w) s u.tested long back) in
        let levels : length s.levels ≡ level_count = ap (λ (x : Session). length x.levels) t.1 ∙ i.levels in
        let size : length (write_narrow s) ≡ length other = length_narrow s levels ∙ sym long in
        rw (there, turned) (refl, overlay_whole (write_narrow s) other size ∙ written_read_narrow narrow (all_bytes narrow bytes) is)

    image_back : (widened_on_image b scratch narrow image).answer ≡ accepted tt
        → let l = narrowed_on_image b again (widened_on_image b scratch narrow image).image other in (l.answer ≡ accepted tt) × (l.image ≡ narrow)
    unfolding widened_on_image
    image_back e = let a = was_accepted (widened_into (length scratch) (length image) b (read_narrow narrow)) e in back_by a.0 a.1

  -- back and wide again
  module _ (scratch image narrow again other : List ℕ) (bytes : Bytes image) (enough : scratch_least ≤ length again) (long : length other ≡ image_size) where
    forth_by : (s : NarrowSession) → narrowed_into (length scratch) (length narrow) b (read_image image) ≡ accepted s
        → let l = widened_on_image b again (narrowed_on_image b scratch image narrow).image other in (l.answer ≡ accepted tt) × (l.image ≡ image)
    unfolding widened_on_image narrowed_on_image widened_into answer_of buffer_after narrow_of
    forth_by s a =
        let n = length scratch in
        let m = length again in
        let w = read_image image in
        let r = narrowed_room b n (length narrow) w s a in
        let t = narrowed_told b n w s r.1 in
        let i = turned_imaged b n w t.0 in
        let is = from_wide b n image t.0 in
        let j : NarrowImaged s = rw (sym t.1) (imaged_narrow w i) in
        let there : buffer_after (narrowed_into n (length narrow) b w) write_narrow narrow ≡ write_narrow s = rw a (overlay_whole (write_narrow s) narrow (length_narrow s j.levels ∙ sym r.0)) in
        let u = turnable_again b n m enough w t.0 in
        let forth : widened m b s ≡ accepted w = rw (sym t.1) (widens b m w u) in
        let turned : widened_into m (length other) b (read_narrow (write_narrow s)) ≡ accepted w =
        rw (read_written_narrow s j) (in_room b m (length other) image_size (widened m b s) w u.tested long forth) in
        rw (there, turned) (refl, overlay_whole (write_image w) other (length_written w i.levels ∙ sym long) ∙ written_read image (all_bytes image bytes) is)

    image_forth : (narrowed_on_image b scratch image narrow).answer ≡ accepted tt
        → let l = widened_on_image b again (narrowed_on_image b scratch image narrow).image other in (l.answer ≡ accepted tt) × (l.image ≡ image)
    unfolding narrowed_on_image
    image_forth e = let a = was_accepted (narrowed_into (length scratch) (length narrow) b (read_image image)) e in forth_by a.0 a.1

  pub image-turns : ImageTurns b
  image-turns = record { back = image_back; forth = image_forth }

-- The host's list of events is the list of events that the stack rule speaks of.
use Prim.Native.Nat.{ℕ}
use native.Mathlib.Omega.{arith}
use mathlib.Core.Path.{◌≡◌, refl, ap, ◌∙◌}
use mathlib.Core.List.{List, [], ◌∷◌, ◌++◌, append-nil}
use lib.ListN.{length, take, length-replicate}
use Rattle.basics.proofs.Laws.{take_overlay}
use Rattle.basics.specs.Outcome.{Outcome, refused, accepted, map_outcome}
use Rattle.basics.specs.Buffer.{overlay, buffer_after}
use Rattle.book.specs.Book.{Book}
use Rattle.book_test.specs.BookTest.{book_test}
use Rattle.book_test.proofs.Promise.{promise}
use Rattle.book_writer.proofs.Writing.{took_newest}
use Rattle.rsolver.specs.LevelState.{level_count, no_levels}
use Rattle.rsolver.specs.SolverState.{SolverState, new_solver, bodies}
use Rattle.rsolver.proofs.Levels.{within_zeros}
use Rattle.solvers.specs.Session.{Written, text_of, fresh_session}
use Rattle.solvers.specs.Calls.{Call, host_of, call}
use Rattle.solvers.specs.Left.{values, values_by, session_after, left, called}
use Rattle.solvers.specs.Image.{write_image, image_after, called_on_image}
use Rattle.solvers.specs.Taken.{text_length, taken}
use Rattle.solvers.specs.Rule.{Present, session_at}
use Rattle.solvers.proofs.Good.{good, term_clean}
use Rattle.solvers.proofs.Questions.{Fits, is-session}
use Rattle.solvers.proofs.Taken.{FitsIn, call_fits, by_length}
use Rattle.solvers.proofs.Image.{Imaged, read_written}
use Rattle.solvers.proofs.IsSession.{within_small, imaged}
use Rattle.stack_rule.specs.Events.{Event, calls, writes, Trace, after, happens, run_from, start, run}
use Rattle.stack_rule.specs.Bodies.{do_event}
use Rattle.stack_rule.specs.HostRun.{HostTrace, host_after, host_happens, host_run_from, host_run}
use Rattle.stack_rule.proofs.Sound.{Sound, passed, failed, sound_start, sound_after}

-- ---- one call
abbrev pub held : Trace → HostTrace
held t = record { book = t.book; image = write_image t.now; text = t.text }

one : (t : Trace) (c : Call) (o : Outcome Written) → FitsIn (host_of c) o
    → record {
      book = t.book;
      image = image_after (map_outcome values o) (session_after o t.now) (write_image t.now);
      text = t.text ++ taken (map_outcome values o) (buffer_after o text_of (host_of c).text);
    } ≡ held (after t c o)
unfolding image_after map_outcome session_after taken buffer_after after values
one t c (refused k) f = λ i. record { book = t.book; image = write_image t.now; text = append-nil t.text i }
one t c (accepted w) f =
    let e : take (text_length (values_by w.result (length (text_of w)))) (overlay (text_of w) (host_of c).text) ≡ text_of w =
    ap (λ (n : ℕ). take n (overlay (text_of w) (host_of c).text)) (by_length w.result (length (text_of w))) ∙ take_overlay (text_of w) (host_of c).text f in
    λ i. record { book = t.book; image = write_image w.session; text = t.text ++ e i }

step : (t : Trace) → Imaged t.now → (c : Call)
    → host_after (held t) (called_on_image t.book (write_image t.now) c) ≡ held (after t c (call t.book t.now c))
unfolding host_after called_on_image called left
step t m c = rw (read_written t.now m) (one t c (call t.book t.now c) (call_fits t.book t.now c))

-- ---- a session that a list of events leaves has an image
module _ (b : Book) (ok : book_test b ≡ accepted tt) where
  imaged_at : (w : Present) → Fits b w → Imaged (session_at b w)
  imaged_at w f = let P = promise b ok in imaged b P (session_at b w) (is-session b (good b P) (term_clean b P) w f)

imaged_fresh : Imaged fresh_session
unfolding fresh_session no_levels
imaged_fresh = record { node = omega arith; goal = omega arith; levels = length-replicate {A = ℕ} level_count 0; small = within_small (omega arith) (within_zeros level_count 0) }

sound_imaged : {t : Trace} {u : SolverState} → Sound t u → Imaged t.now
unfolding start
sound_imaged (passed {t = t} k) = rw k.holds.session (imaged_at t.book k.holds.tested t.due k.holds.fits)
sound_imaged (failed b h) = imaged_fresh

-- ---- all of them
host_step : {t : Trace} {u : SolverState} → Sound t u → (e : Event) → host_happens (held t) e ≡ held (happens t e)
unfolding host_happens happens
host_step {t} s (calls c) = step t (sound_imaged s) c
host_step {t} s (writes x) =
    ap {B = HostTrace} (λ (b : Book). record { book = b; image = write_image t.now; text = t.text }) (took_newest t.book x)

host_from : (es : List Event) (t : Trace) (u : SolverState) → Sound t u → host_run_from (held t) es ≡ held (run_from t es)
unfolding host_run_from run_from
host_from [] t u s = refl
host_from (e ∷ es) t u s =
    ap (λ (h : HostTrace). host_run_from h es) (host_step s e) ∙ host_from es (happens t e) (do_event bodies t e u) (sound_after s e)

pub host-run : (b : Book) (es : List Event) → host_run b es ≡ held (run b es)
unfolding host_run run start
host-run b es = host_from es (start b) new_solver (sound_start b)

-- What holds after any list of events, and of the bodies' state beside it: on a book that fails the test nothing happens.
use mathlib.Core.Path.{◌≡◌, refl, subst}
use mathlib.Core.List.{List, [], ◌∷◌}
use Rattle.basics.specs.Outcome.{Outcome, refused, accepted}
use Rattle.book.specs.Book.{Book}
use Rattle.book_test.specs.BookTest.{book_test}
use Rattle.book_test.proofs.Numbers.{test_not20}
use Rattle.book_writer.specs.Writing.{Lent, write, newest}
use Rattle.book_writer.proofs.Writing.{write_grows}
use Rattle.rsolver.specs.SolverState.{SolverState, new_solver, bodies}
use Rattle.solvers.specs.Calls.{call}
use Rattle.solvers.proofs.BadBook.{Refused, call_refused}
use Rattle.stack_rule.specs.Events.{Event, calls, writes, Trace, happens, run_from, start, run}
use Rattle.stack_rule.specs.Bodies.{do_event, do_from, do_all}
use Rattle.stack_rule.proofs.BadBook.{after_refused}
use Rattle.stack_rule.proofs.Holds.{kept, on}
use Rattle.stack_rule.proofs.Bodies.{Carries, carries_start, carries_after, carries_grown, refused_does}

pub data Sound : Trace → SolverState → Type 0 where
  passed : {t : Trace} {u : SolverState} → Carries t u → Sound t u
  failed : (b : Book) → Refused (book_test b) → Sound (start b) new_solver

pub sound_start : (b : Book) → Sound (start b) new_solver
sound_start b = at (book_test b) refl
  where
    at : (o : Outcome (Unit {0})) → book_test b ≡ o → Sound (start b) new_solver
    at (refused k) e = failed b (rw e (rw e at (test_not20 b)))
    at (accepted tt) e = passed (carries_start b e)

grown_sound : (t : Trace) (u : SolverState) → Carries t u → (x : Lent) (o : Outcome Book) → write t.book x ≡ o → Sound (on (newest t.book o) t) u
unfolding newest
grown_sound t u k x (refused n) e = passed k
grown_sound t u k x (accepted c) e = passed (carries_grown t u k (write_grows t.book x c e))

pub unwritten : (b : Book) → Refused (book_test b) → (x : Lent) (o : Outcome Book) → write b x ≡ o → newest b o ≡ b
unfolding newest
unwritten b h x (refused n) e = refl
unwritten b h x (accepted c) e = absurd (subst Refused (write_grows b x c e).before h)

pub sound_after : {t : Trace} {u : SolverState} → Sound t u → (e : Event) → Sound (happens t e) (do_event bodies t e u)
unfolding happens do_event
sound_after (passed {t = t} {u = u} k) (calls c) = passed (carries_after t u k c (call t.book t.now c) (kept t k.holds c))
sound_after (passed {t = t} {u = u} k) (writes x) = grown_sound t u k x (write t.book x) refl
sound_after (failed b h) (calls c) =
    let o = call (start b).book (start b).now c in
    let r : Refused o = unfold start in call_refused b h (start b).now c in
    rw (after_refused (start b) c o r, refused_does bodies (start b).book c o r new_solver) (failed b h)
sound_after (failed b h) (writes x) = unfold start in rw (unwritten b h x (write b x) refl) (unfold start in failed b h)

pub sound_from : (es : List Event) (t : Trace) (u : SolverState) → Sound t u → Sound (run_from t es) (do_from bodies t es u)
unfolding run_from do_from
sound_from [] t u s = s
sound_from (e ∷ es) t u s = sound_from es (happens t e) (do_event bodies t e u) (sound_after s e)

pub sound : (b : Book) (es : List Event) → Sound (run b es) (do_all b es)
unfolding run do_all
sound b es = sound_from es (start b) new_solver (sound_start b)

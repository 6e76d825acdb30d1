-- What holds after any list of events whose book passes the test. It is carried over each call, and over each growth of the book.
use mathlib.Core.Path.{◌≡◌, refl, sym, ap, ◌∙◌}
use mathlib.Core.List.{List, [], ◌++◌}
use Rattle.basics.specs.Outcome.{Outcome, accepted, refused}
use Rattle.basics.proofs.All.{All, end, all_append}
use Rattle.book.specs.Book.{Book}
use Rattle.book.specs.Program.{path, path_up}
use Rattle.book_test.specs.BookTest.{book_test}
use Rattle.book_growth.specs.Grows.{Grows}
use Rattle.smt_engines.specs.Command.{Command, script}
use Rattle.smt_engines.specs.Reader.{first, live, hear_all, read, lines}
use Rattle.smt_engines.proofs.Hearing.{Whole, hears, hears_append, script_append, read_script}
use Rattle.rsolver.specs.LevelState.{fresh}
use Rattle.solvers.specs.Session.{Written, text_of, fresh_session}
use Rattle.solvers.specs.Calls.{Call, call}
use Rattle.solvers.specs.Rule.{standing, levels_of, levels_for, present, must_live, session_at, said}
use Rattle.solvers.proofs.Questions.{Fits, Kept}
use Rattle.solvers.proofs.Root.{root_present, G, T, fits_start}
use Rattle.solvers.proofs.Steps.{step_kept}
use Rattle.stack_rule.specs.Events.{Trace, after, start}
use Rattle.stack_rule.proofs.GrownBook.{live_kept, session_at_kept, fits_kept}

pub record Holds (t : Trace) : Type 0 where
  pub tested : book_test t.book ≡ accepted tt
  pub sent : List Command
  pub spelled : t.text ≡ script sent
  pub wholes : All Whole sent
  pub heard : hears (live (first [])) sent ≡ live (must_live t.book t.due)
  pub session : t.now ≡ session_at t.book t.due
  pub fits : Fits t.book t.due

pub kept : (t : Trace) → Holds t → (c : Call) → Kept t.book t.due c (call t.book t.now c)
kept t x c = rw x.session (step_kept t.book (G t.book x.tested) (T t.book x.tested) t.due x.fits c)

unfoldable pub holds_after : (t : Trace) → Holds t → (c : Call) (o : Outcome Written) → Kept t.book t.due c o → Holds (after t c o)
unfolding after text_of
holds_after t x c (refused k) h = x
holds_after t x c (accepted w) h =
    let said-now = said t.book t.due c in
    record {
      tested = x.tested;
      sent = x.sent ++ said-now;
      spelled = rw (x.spelled, h.commands) (sym (script_append x.sent said-now));
      wholes = all_append x.wholes h.wholes;
      heard = hears_append (live (first [])) x.sent said-now ∙ ap (λ r. hears r said-now) x.heard ∙ h.heard;
      session = h.session;
      fits = h.fits;
    }

unfoldable pub holds_start : (b : Book) → book_test b ≡ accepted tt → Holds (start b)
unfolding start root_present script hears hear_all lines must_live levels_for levels_of path path_up present session_at fresh_session standing fresh
holds_start b ok =
    record { tested = ok; sent = []; spelled = refl; wholes = end; heard = refl; session = refl; fits = fits_start b ok }

pub reads_at : (t : Trace) → Holds t → read t.text ≡ live (must_live t.book t.due)
reads_at t x = ap read x.spelled ∙ read_script x.wholes ∙ x.heard

-- ---- a growth
abbrev pub on : Book → Trace → Trace
on c t = record { book = c; now = t.now; text = t.text; due = t.due }

unfoldable pub holds_grown : (t : Trace) {c : Book} → Grows t.book c → Holds t → Holds (on c t)
holds_grown t g x =
    record {
      tested = g.after;
      sent = x.sent;
      spelled = x.spelled;
      wholes = x.wholes;
      heard = x.heard ∙ ap live (sym (live_kept g t.due x.fits));
      session = x.session ∙ sym (session_at_kept g t.due x.fits);
      fits = fits_kept g t.due x.fits;
    }

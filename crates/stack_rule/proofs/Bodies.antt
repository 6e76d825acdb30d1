-- The Dafny bodies' state, with sets and copies, beside the session's: on a book that passes the test they agree after every event.
use mathlib.Core.Path.{◌≡◌, refl, sym, subst}
use Rattle.basics.specs.Outcome.{Outcome, refused, accepted}
use Rattle.book.specs.Book.{Book}
use Rattle.book.specs.Program.{path, path_up}
use Rattle.book.specs.Decode.{program}
use Rattle.book_test.specs.BookTest.{book_test}
use Rattle.book_growth.specs.Grows.{Grows}
use Rattle.rsolver.specs.Methods.{Methods}
use Rattle.rsolver.specs.LevelState.{LevelState, fresh}
use Rattle.rsolver.specs.SolverState.{SolverState, new_solver, bodies}
use Rattle.rsolver.proofs.Agree.{Agree, agree_fresh}
use Rattle.rsolver.proofs.AgreeExtends.{agree_grown}
use Rattle.solvers.specs.Session.{Written}
use Rattle.solvers.specs.Calls.{Call}
use Rattle.solvers.specs.Rule.{standing, present}
use Rattle.solvers.proofs.Standing.{sending}
use Rattle.solvers.proofs.Questions.{state_for, state_at, Kept}
use Rattle.solvers.proofs.BadBook.{Refused}
use Rattle.solvers.proofs.Bodies.{call_agrees}
use Rattle.stack_rule.specs.Events.{Trace, after, start}
use Rattle.stack_rule.specs.Bodies.{do_if_accepted}
use Rattle.stack_rule.proofs.GrownBook.{state_kept, state_unmarked}
use Rattle.stack_rule.proofs.Holds.{Holds, holds_after, holds_start, on, holds_grown}

-- the two states that are kept from call to call: the one with levels is where the trace stands, and the one with sets agrees with it
pub record Carries (t : Trace) (u : SolverState) : Type 0 where
  pub holds : Holds t
  pub agree : Agree (program t.book) (sending holds.sent (state_at t.book t.due)) u

pub carries_start : (b : Book) → book_test b ≡ accepted tt → Carries (start b) new_solver
unfolding holds_start start state_at state_for present standing path path_up fresh
carries_start b ok = record { holds = holds_start b ok; agree = unfold fresh in agree_fresh (program b) }

module _ (t : Trace) (u : SolverState) (x : Carries t u) where
  pub carries_after : (c : Call) (o : Outcome Written) → Kept t.book t.due c o → Carries (after t c o) (do_if_accepted bodies t.book c o u)
  unfolding do_if_accepted after holds_after
  carries_after c (refused k) h = x
  carries_after c (accepted w) h =
      record {
        holds = holds_after t x.holds c (accepted w) h;
        agree = rw (sym (h.state x.holds.sent)) (call_agrees t.book x.holds.tested c h.goal_in x.agree);
      }

  pub carries_grown : {c : Book} → Grows t.book c → Carries (on c t) u
  unfolding holds_grown
  carries_grown {c} g =
      let f = x.holds.fits in
      record {
        holds = holds_grown t g x.holds;
        agree =
            subst (λ (s : LevelState). Agree (program c) (sending x.holds.sent s) u) (sym (state_kept g t.due f))
            (agree_grown g.extends (state_unmarked g t.due f) x.agree);
      }

-- a refused call does nothing
pub refused_does : (M : Methods SolverState) (b : Book) (c : Call) (o : Outcome Written) → Refused o → (u : SolverState) → do_if_accepted M b c o u ≡ u
unfolding do_if_accepted
refused_does M b c (refused k) h u = refl
refused_does M b c (accepted w) h u = absurd h

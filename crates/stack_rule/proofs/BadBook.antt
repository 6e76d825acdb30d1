-- The stack rule for a book that fails the test: every call is refused, and not with 20, and nothing happens.
use mathlib.Core.Path.{◌≡◌, refl, sym, ap, subst}
use mathlib.Core.List.{[], ◌∷◌}
use Rattle.basics.specs.Outcome.{Outcome, accepted, refused}
use Rattle.book.specs.Book.{Book}
use Rattle.book.specs.Program.{path, path_up}
use Rattle.book_test.specs.BookTest.{book_test}
use Rattle.smt_engines.specs.Reader.{cut, hear_all, read}
use Rattle.rsolver.specs.LevelState.{fresh}
use Rattle.solvers.specs.declared.Owed.TheVariants.{Nothing}
use Rattle.solvers.specs.declared.Session.{Session}
use Rattle.solvers.specs.Session.{Written, fresh_session}
use Rattle.solvers.specs.Calls.{Call, move_to, call}
use Rattle.solvers.specs.Rule.{standing, levels_of, levels_for, present, node_levels, must_live, session_at}
use Rattle.solvers.proofs.Heights.{live_height}
use Rattle.solvers.proofs.BadBook.{Refused, call_refused}
use Rattle.stack_rule.specs.Events.{calls, Trace, after, happens, run_from, start, run, straight}
use Rattle.stack_rule.specs.StackRule.{Same, RuleAt}

same_trace : {t u : Trace} → t ≡ u → Same t u
same_trace e =
    record { live = ap (λ (x : Trace). read x.text) e; node = ap (λ (x : Trace). x.now.node) e; levels = ap (λ (x : Trace). x.now.levels) e }

pub after_refused : (t : Trace) (c : Call) (o : Outcome Written) → Refused o → after t c o ≡ t
unfolding after
after_refused t c (refused k) h = refl
after_refused t c (accepted w) h = absurd h

module _ (b : Book) (bad : Refused (book_test b)) where
  one_refused : (c : Call) → run b (calls c ∷ []) ≡ start b
  unfolding run run_from happens start
  one_refused c = after_refused (start b) c (call b fresh_session c) (call_refused b bad fresh_session c)

  not_accepted : (s : Session) (c : Call) (w : Written) → call b s c ≡ accepted w → ⊥
  not_accepted s c w e = subst Refused e (call_refused b bad s c)

  pub rule_bad : RuleAt (start b)
  unfolding start read cut hear_all node_levels must_live levels_for levels_of path path_up present session_at fresh_session standing fresh
  rule_bad =
      record {
        reads = refl;
        height = live_height b (present 0 0 Nothing);
        moved = (0, λ h k. ap (λ (t : Trace). read t.text) (one_refused (move_to h 0)));
        fresh = (0, λ h k. same_trace (sym (one_refused (straight h (present 0 0 Nothing)))));
        texts = λ c w e. absurd (not_accepted fresh_session c w e);
        session = refl;
        never20 = λ c e. (subst Refused e (call_refused b bad fresh_session c)) refl;
        complete = record { node = refl; goal = λ z. absurd (z refl) };
      }

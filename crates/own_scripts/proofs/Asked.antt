-- After any list of events the check-sats of the text so far have the levels of its questions, by the newest book.
use mathlib.Core.Path.{◌≡◌, refl, sym, ap, ◌∙◌, subst}
use mathlib.Core.List.{List, [], ◌∷◌, ◌++◌, map, map-append, append_assoc, append-nil}
use Rattle.basics.specs.Outcome.{Outcome, refused, accepted}
use Rattle.basics.proofs.All.{All, end, all_append, all_weaken, map_agree}
use Rattle.book.specs.Book.{Book}
use Rattle.book_test.specs.BookTest.{book_test}
use Rattle.book_test.proofs.Numbers.{test_not20}
use Rattle.book_growth.specs.Grows.{Grows}
use Rattle.book_writer.specs.Writing.{write}
use Rattle.smt_engines.specs.Reader.{cut, first, live, lines}
use Rattle.smt_engines.proofs.Hearing.{cut_script}
use Rattle.solvers.specs.declared.Owed.TheVariants.{Reply}
use Rattle.solvers.specs.Session.{Written}
use Rattle.solvers.specs.Calls.{Call, call}
use Rattle.solvers.specs.Rule.{present, said}
use Rattle.solvers.proofs.Questions.{Kept}
use Rattle.solvers.proofs.BadBook.{Refused, call_refused}
use Rattle.stack_rule.specs.Events.{Event, calls, writes, Trace, after, happens, run_from, start, run}
use Rattle.stack_rule.proofs.GrownBook.{live_kept, fits_kept}
use Rattle.stack_rule.proofs.Holds.{Holds, kept, holds_after, holds_start, holds_grown, on}
use Rattle.stack_rule.proofs.BadBook.{after_refused}
use Rattle.stack_rule.proofs.Sound.{unwritten}
use Rattle.stack_rule.proofs.Growing.{newest_grows}
use Rattle.script_checks.specs.ScriptChecks.{checks_from, checks}
use Rattle.question_lists.specs.Questions.{Question, stack_for}
use Rattle.own_scripts.specs.OwnScripts.{asked_if, asked_in, asked_from, asked}
use Rattle.own_scripts.proofs.CheckSats.{checks_append}
use Rattle.own_scripts.proofs.Said.{Open, call_checks, call_open}

-- ---- on a book that passes the test
record Checked (t : Trace) (qs : List Question) : Type 0 where
  holds : Holds t
  seen : checks_from (live (first [])) (lines holds.sent) ≡ map (stack_for t.book) qs
  opens : All (Open t.book) qs

checked_start : (b : Book) → book_test b ≡ accepted tt → Checked (start b) []
unfolding holds_start checks_from lines
checked_start b ok = record { holds = holds_start b ok; seen = refl; opens = end }

checked_after : (t : Trace) {qs : List Question} → Checked t qs → (c : Call) (o : Outcome Written) → Kept t.book t.due c o → Checked (after t c o) (qs ++ asked_if c o)
unfolding after holds_after asked_if
checked_after t {qs} x c (refused k) h = subst (Checked t) (sym (append-nil qs)) x
checked_after t {qs} x c (accepted w) h =
    let b = t.book in
    let ok = x.holds.tested in
    let new = said b t.due c in
    record {
      holds = holds_after t x.holds c (accepted w) h;
      seen =
          checks_append (live (first [])) x.holds.sent new
          ∙ rw (x.holds.heard, x.seen, call_checks b ok t.due c w h) (sym (map-append (stack_for b) qs _));
      opens = all_append x.opens (call_open b ok t.due c w h);
    }

opens_kept : {b c : Book} → Grows b c → {qs : List Question} → All (Open b) qs → All (Open c) qs
opens_kept g = all_weaken (λ q f. fits_kept g (present q.node q.goal Reply) f)

checked_grown : (t : Trace) {qs : List Question} {c : Book} → Grows t.book c → Checked t qs → Checked (on c t) qs
unfolding holds_grown stack_for
checked_grown t {c = c} g x =
    record {
      holds = holds_grown t g x.holds;
      seen = x.seen ∙ map_agree (Open t.book) (stack_for t.book) (stack_for c) (λ q f. sym (live_kept g (present q.node q.goal Reply) f)) x.opens;
      opens = opens_kept g x.opens;
    }

-- ---- on one that fails it nothing is asked
asked_refused : (c : Call) (o : Outcome Written) → Refused o → asked_if c o ≡ []
unfolding asked_if
asked_refused c (refused k) h = refl
asked_refused c (accepted w) h = absurd h

-- ---- after any list of events
data Asked : Trace → List Question → Type 0 where
  passed : {t : Trace} {qs : List Question} → Checked t qs → Asked t qs
  failed : (b : Book) → Refused (book_test b) → Asked (start b) []

asked_start : (b : Book) → Asked (start b) []
asked_start b = at (book_test b) refl
  where
    at : (o : Outcome (Unit {0})) → book_test b ≡ o → Asked (start b) []
    at (refused k) e = failed b (rw e (rw e at (test_not20 b)))
    at (accepted tt) e = passed (checked_start b e)

asked_after : {t : Trace} {qs : List Question} → Asked t qs → (e : Event) → Asked (happens t e) (qs ++ asked_in t e)
unfolding happens asked_in
asked_after (passed {t = t} k) (calls c) = passed (checked_after t k c (call t.book t.now c) (kept t k.holds c))
asked_after (passed {t = t} {qs = qs} k) (writes x) =
    rw (append-nil qs) (passed (checked_grown t (newest_grows t.book k.holds.tested x (write t.book x) refl) k))
asked_after (failed b h) (calls c) =
    let o = call (start b).book (start b).now c in
    let r : Refused o = unfold start in call_refused b h (start b).now c in
    rw (after_refused (start b) c o r, asked_refused c o r) (failed b h)
asked_after (failed b h) (writes x) = unfold start in rw (unwritten b h x (write b x) refl) (unfold start in failed b h)

asked-from : (es : List Event) (t : Trace) (qs : List Question) → Asked t qs → Asked (run_from t es) (qs ++ asked_from t es)
unfolding run_from asked_from
asked-from [] t qs a = rw (append-nil qs) a
asked-from (e ∷ es) t qs a = rw (append_assoc qs (asked_in t e) (asked_from (happens t e) es)) at (asked-from es (happens t e) (qs ++ asked_in t e) (asked_after a e))

-- ---- the text, and its questions
pub record Told (t : Trace) (qs : List Question) : Type 0 where
  pub seen : checks t.text ≡ map (stack_for t.book) qs
  pub opens : All (Open t.book) qs

told : {t : Trace} {qs : List Question} → Asked t qs → Told t qs
unfolding checks
told (passed {t = t} k) =
    let x = k.holds in
    record { seen = ap (checks_from (live (first []))) (ap cut x.spelled ∙ cut_script x.wholes) ∙ k.seen; opens = k.opens }
told (failed b h) = unfold start cut checks_from in (record { seen = refl; opens = end })

pub own_told : (b : Book) (es : List Event) → Told (run b es) (asked b es)
unfolding run asked
own_told b es = told (asked-from es (start b) [] (asked_start b))

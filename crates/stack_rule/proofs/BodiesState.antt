-- The state that the Dafny bodies keep from call to call, after every list of events: what it has sent, how long its stack is, that no
-- axiom is missed, and that no Pop is asked of an empty stack.
use Prim.Native.Nat.{◌+◌}
use native.Mathlib.Omega.{arith}
use mathlib.Core.Path.{◌≡◌, refl, sym, ap, ◌∙◌}
use mathlib.Core.Bool.{false}
use mathlib.Core.List.{List, [], ◌∷◌}
use lib.ListN.{length}
use Rattle.basics.specs.Outcome.{Outcome, refused, accepted}
use Rattle.book.specs.Program.{path, path_up, depth}
use Rattle.book.specs.Decode.{program}
use Rattle.smt_engines.specs.Command.{script}
use Rattle.smt_engines.specs.Reader.{read}
use Rattle.rsolver.specs.Step.{Step}
use Rattle.rsolver.specs.SolverState.{SolverState, new_solver, bodies, bodies_or, Valid}
use Rattle.rsolver.proofs.Agree.{agree_sent, agree_length, agree_missing}
use Rattle.solvers.specs.Session.{Written}
use Rattle.solvers.specs.Calls.{Call, call}
use Rattle.solvers.specs.Rule.{open_questions, present, must_live}
use Rattle.solvers.proofs.Questions.{state_at, Kept}
use Rattle.solvers.proofs.BadBook.{Refused, call_refused}
use Rattle.solvers.proofs.Bodies.{stack-for, missing_for, call_same, two_levels}
use Rattle.stack_rule.specs.Events.{Event, calls, writes, Trace, happens, start}
use Rattle.stack_rule.specs.Bodies.{do_if_accepted, do_event, do_from}
use Rattle.stack_rule.specs.StackRule.{RuleAt}
use Rattle.stack_rule.proofs.Holds.{kept}
use Rattle.stack_rule.proofs.Bodies.{Carries, refused_does}
use Rattle.stack_rule.proofs.Sound.{Sound, passed, failed, sound_after}

carried_stack : (t : Trace) (u : SolverState) → Carries t u → length u.stack ≡ open_questions t.due.owed + depth (program t.book) t.due.node
unfolding state_at
carried_stack t u x = sym (agree_length x.agree) ∙ stack-for t.book x.holds.tested t.due t.due.owed x.holds.fits.asks

carried_missing : (t : Trace) (u : SolverState) → Carries t u → u.missing ≡ false
unfolding state_at
carried_missing t u x =
    sym (agree_missing x.agree)
    ∙ missing_for t.book x.holds.tested t.due t.due.owed x.holds.fits.clear x.holds.fits.asks

pub sound_sent : {t : Trace} {u : SolverState} → Sound t u → script u.sent ≡ t.text
unfolding start new_solver script
sound_sent (passed k) = ap script (sym (agree_sent k.agree)) ∙ sym k.holds.spelled
sound_sent (failed b h) = refl

pub sound_stack : {t : Trace} {u : SolverState} → Sound t u → length u.stack ≡ open_questions t.due.owed + depth (program t.book) t.due.node
unfolding start new_solver present open_questions depth path path_up
sound_stack (passed {t = t} {u = u} k) = carried_stack t u k
sound_stack (failed b h) = refl

pub sound_missing : {t : Trace} {u : SolverState} → Sound t u → u.missing ≡ false
unfolding new_solver
sound_missing (passed {t = t} {u = u} k) = carried_missing t u k
sound_missing (failed b h) = refl

pub sound_valid : {t : Trace} {u : SolverState} → Sound t u → RuleAt t → Valid (open_questions t.due.owed) u
sound_valid {t} s r =
    record {
      command_stacks = must_live t.book t.due;
      reads = ap read (sound_sent s) ∙ r.reads;
      lengths = omega (arith, sound_stack s, r.height, two_levels t.due.owed);
    }

-- ---- Pop, whatever it does with an empty stack
module _ (wrong : Step SolverState) where
  does_same : (t : Trace) (u : SolverState) → Carries t u → (c : Call) (o : Outcome Written) → Kept t.book t.due c o
      → do_if_accepted (bodies_or wrong) t.book c o u ≡ do_if_accepted bodies t.book c o u
  unfolding do_if_accepted
  does_same t u x c (refused k) h = refl
  does_same t u x c (accepted w) h =
      call_same t.book x.holds.tested wrong c t.due.owed u h.open_for (omega (arith, carried_stack t u x))

  event_same : {t : Trace} {u : SolverState} → Sound t u → (e : Event) → do_event (bodies_or wrong) t e u ≡ do_event bodies t e u
  unfolding do_event
  event_same (passed {t = t} {u = u} k) (calls c) = does_same t u k c (call t.book t.now c) (kept t k.holds c)
  event_same (passed k) (writes x) = refl
  event_same (failed b h) (calls c) =
      let o = call (start b).book (start b).now c in
      let r : Refused o = unfold start in call_refused b h (start b).now c in
      refused_does (bodies_or wrong) (start b).book c o r new_solver ∙ sym (refused_does bodies (start b).book c o r new_solver)
  event_same (failed b h) (writes x) = refl

  pub pops_same : (es : List Event) (t : Trace) (u : SolverState) → Sound t u → do_from (bodies_or wrong) t es u ≡ do_from bodies t es u
  unfolding do_from
  pops_same [] t u s = refl
  pops_same (e ∷ es) t u s =
      ap (do_from (bodies_or wrong) (happens t e) es) (event_same s e) ∙ pops_same es (happens t e) (do_event bodies t e u) (sound_after s e)

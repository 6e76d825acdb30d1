-- THE STACK RULE and what stands beside it in specs/StackRule.antt, proved for every book and every list of events.
use mathlib.Core.Path.{◌≡◌, refl, ap, subst}
use mathlib.Core.List.{List}
use mathlib.Core.Bool.{false}
use Rattle.book.specs.Book.{Book}
use Rattle.book.specs.Decode.{term, program}
use Rattle.smt_engines.specs.Command.{script}
use Rattle.rsolver.specs.SolverState.{SolverState, new_solver}
use Rattle.solvers.specs.declared.Owed.{Owed}
use Rattle.solvers.specs.declared.Owed.TheVariants.{Nothing, Reply, Model}
use Rattle.solvers.specs.Session.{text_of}
use Rattle.solvers.specs.Calls.{move_to}
use Rattle.solvers.specs.Rule.{goal_state, Present, present}
use Rattle.solvers.proofs.Heights.{live_height}
use Rattle.solvers.proofs.Questions.{Asks, Fits, Kept}
use Rattle.solvers.proofs.Straight.{room_for, nobody}
use Rattle.stack_rule.specs.Events.{Event, Trace, start, straight}
use Rattle.stack_rule.specs.Bodies.{do_all, do_all_or}
use Rattle.stack_rule.specs.HostRun.{HostTrace}
use Rattle.stack_rule.specs.StackRule.{RuleAt, StackRule, Seen}
use Rattle.stack_rule.proofs.Holds.{Holds, kept, reads_at}
use Rattle.stack_rule.proofs.Straight.{moved_there, straight_there}
use Rattle.stack_rule.proofs.BadBook.{rule_bad}
use Rattle.stack_rule.proofs.Sound.{Sound, passed, failed, sound_start, sound}
use Rattle.stack_rule.proofs.BodiesState.{sound_sent, sound_stack, sound_missing, sound_valid, pops_same}
use Rattle.stack_rule.proofs.HostRun.{host-run}

complete_goal : (b : Book) (w : Present) (o : Owed) → Asks b w o → ¬ (o ≡ Nothing) → (goal_state (program b) w.node (term b w.goal)).missing ≡ false
complete_goal b w Nothing a z = absurd (z refl)
complete_goal b w Reply a z = a.1
complete_goal b w Model a z = a.1

closed_fits : (b : Book) (w : Present) → Fits b w → Fits b (present w.node 0 Nothing)
unfolding present
closed_fits b w f = record { inside = f.inside; clear = f.clear; asks = refl }

rule_good : (t : Trace) → Holds t → RuleAt t
rule_good t x =
    let b = t.book in
    let w = t.due in
    let no_one = nobody b x.tested in
    record {
      reads = reads_at t x;
      height = live_height b w;
      moved = (room_for b (move_to no_one w.node), moved_there b x.tested w.node (closed_fits b w x.fits));
      fresh = (room_for b (straight no_one w), straight_there t x);
      texts = λ c y e. unfold text_of in ap script (subst (Kept b w c) e (kept t x c)).commands;
      session = x.session;
      never20 = λ c e. (subst (Kept b w c) e (kept t x c)) refl;
      complete = record { node = x.fits.clear; goal = complete_goal b w w.owed x.fits.asks };
    }

sound_rule : {t : Trace} {u : SolverState} → Sound t u → RuleAt t
sound_rule (passed {t = t} k) = rule_good t k.holds
sound_rule (failed b h) = rule_bad b h

pub stack-rule : (b : Book) (es : List Event) → StackRule b es
stack-rule b es = sound_rule (sound b es)

pub seen : (b : Book) (es : List Event) → Seen b es
unfolding do_all do_all_or
seen b es =
    let s = sound b es in
    record {
      book = ap (λ (t : HostTrace). t.book) (host-run b es);
      image = ap (λ (t : HostTrace). t.image) (host-run b es);
      sent = ap (λ (t : HostTrace). t.text) (host-run b es);
      bodies = sound_sent s;
      stack = sound_stack s;
      valid = sound_valid s (stack-rule b es);
      pops = λ wrong. pops_same wrong es (start b) new_solver (sound_start b);
      expects = sound_missing s;
    }

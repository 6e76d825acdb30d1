-- EVERY SYMBOL DECLARED ONCE, for every list of bytes as the book and every list of events.
use native.Mathlib.Omega.{arith}
use mathlib.Core.Path.{◌≡◌, refl, sym, ap, ◌∙◌}
use mathlib.Core.Bool.{true}
use mathlib.Core.List.{List, [], ◌∷◌, ◌++◌}
use lib.ListN.{length, length-append}
use Rattle.basics.proofs.All.{All, end}
use Rattle.book.specs.Book.{Book}
use Rattle.book.specs.Program.{path, path_up}
use Rattle.book_test.proofs.Promise.{promise}
use Rattle.smt_engines.specs.Command.{Command}
use Rattle.smt_engines.specs.Reader.{live}
use Rattle.rsolver.specs.SolverState.{SolverState}
use Rattle.solvers.specs.Rule.{present}
use Rattle.stack_rule.specs.Events.{Event, Trace, start, run}
use Rattle.stack_rule.proofs.Sound.{Sound, passed, failed, sound}
use Rattle.stack_rule.proofs.Theorem.{stack-rule}
use Rattle.declared_once.specs.Symbols.{Among}
use Rattle.declared_once.specs.ToldApart.{prints_apart}
use Rattle.declared_once.specs.DeclaredOnce.{path_commands, commands_for, live_commands, together, Place, DeclaredOnce, NoStrangerAt, NoStranger}
use Rattle.declared_once.proofs.Lists.{all_among}
use Rattle.declared_once.proofs.Weaker.{told_prints}
use Rattle.declared_once.proofs.Present.{placed_at, must_stacked}
use Rattle.declared_once.proofs.Numbered.{ordered}
use Rattle.declared_once.proofs.Reached.{present_once}

-- where nothing is live there is no place
no_place : Place ([] ∷ []) → ⊥
no_place q =
    let e : together ([] ∷ []) ≡ (together q.lower ++ q.before) ++ (q.command ∷ (q.behind ++ together q.higher)) =
    ap together q.here ∙ placed_at q.lower q.before q.command q.behind q.higher in
    let n : 0 ≡ length ((together q.lower ++ q.before) ++ (q.command ∷ (q.behind ++ together q.higher))) = sym empty ∙ ap length e in
    omega (arith, simp length-append at n)
  where
    empty : length (together ([] ∷ [])) ≡ 0
    empty = unfold together in refl

no_live : (d : Command) → Among d (together ([] ∷ [])) → ⊥
no_live d i = all_among none i
  where
    none : All (λ c. ⊥) (together ([] ∷ []))
    none = unfold together in end

nothing_once : DeclaredOnce ([] ∷ [])
nothing_once =
    record {
      one = λ q e h x i. absurd (no_place q);
      earlier = λ q e h x i. absurd (no_place q);
      own = λ q e h x i d j g. absurd (no_place q);
      operator = λ q e h n i d j. absurd (no_place q);
      types = λ n i d j. absurd (no_live d j);
    }

-- of a book that fails the test every call is refused: nothing is live
bad_once : (b : Book) → DeclaredOnce (live_commands (start b).book (start b).due)
unfolding start live_commands commands_for path_commands path path_up present
bad_once b = nothing_once

sound_once : {t : Trace} {u : SolverState} → Sound t u → prints_apart t.book ≡ true → DeclaredOnce (live_commands t.book t.due)
sound_once (passed {t = t} k) T =
    present_once t.book (promise t.book k.holds.tested) T t.due k.holds.fits.asks
sound_once (failed b h) T = bad_once b

pub no_stranger : (b : Book) (es : List Event) → NoStranger b es
no_stranger b es = record { told = λ T. at (told_prints (run b es).book T); apart = at }
  where
    at : prints_apart (run b es).book ≡ true → NoStrangerAt (run b es)
    at T =
        let lives = (stack-rule b es).reads ∙ ap live (must_stacked (run b es).book (run b es).due) in
        record { lives = lives; order = ordered (run b es).text _ lives; once = sound_once (sound b es) T }

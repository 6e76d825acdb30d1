-- The levels have all their places, so a walk's fuel is enough; in the bodies' state it always is.
use Prim.Native.Nat.{ℕ}
use native.Mathlib.Omega.{arith}
use mathlib.Core.Path.{◌≡◌, sym, ◌∙◌}
use mathlib.Core.List.{List, [], ◌∷◌}
use lib.ListN.{length, length-replicate}
use Rattle.book.specs.Book.{Book}
use Rattle.book.specs.Program.{Program}
use Rattle.book.specs.Decode.{program}
use Rattle.book.proofs.Terms.{axioms_length}
use Rattle.book_test.specs.Promise.{Promise}
use Rattle.rsolver.specs.LevelState.{LevelState, level_count, no_levels, levelled, fresh, push}
use Rattle.rsolver.specs.Methods.{Methods}
use Rattle.rsolver.specs.SolverState.{SolverState, bodies}
use Rattle.rsolver.proofs.Levels.{grown_length}
use Rattle.rsolver.proofs.Fewer.{Counts, fuel_enough, symbols_enough}
use Rattle.rsolver.proofs.Fuel.{counts, body_counts}
use Rattle.solvers.specs.Rule.{standing}
use Rattle.solvers.specs.Fallbacks.{FuelEnough}
use Rattle.solvers.proofs.Good.{Good}
use Rattle.solvers.proofs.Standing.{grown_at}

pub levels_length : (p : Program) (G : Good p) (ns : List ℕ) → length (standing p ns).levels ≡ level_count
unfolding standing fresh no_levels
levels_length p G [] = length-replicate {A = ℕ} level_count 0
levels_length p G (n ∷ ns) = grown_length (grown_at p G n ns) ∙ levels_length p G ns

-- a form of the state that counts the undeclared axioms has fuel enough
fuel : {S : Type 0} {M : Methods S} {p : Program} {Inside : S → Type 0} {left : S → ℕ} → Counts M p Inside left → (s : S) → Inside s → FuelEnough M p s
fuel C s i =
    record {
      more = λ e exclude f f' h h'. fuel_enough C f h e exclude s i ∙ sym (fuel_enough C f' h' e exclude s i);
      own = λ e f h. symbols_enough C f h e s i;
    }

-- inside a level, where a book that passes the test has a place for each of its axioms
pub enough : (b : Book) → Promise b → (n : ℕ) (s : LevelState) → length s.levels ≡ level_count → FuelEnough (levelled (program b)) (program b) (push n s)
unfolding push
enough b P n s w = fuel (counts (program b)) (push n s) (record { deep = omega arith; wide = omega (arith, axioms_length b, P.axioms_laid.few) })

-- in every state of the bodies
pub bodies_enough : (p : Program) (s : SolverState) → FuelEnough bodies p s
bodies_enough p s = fuel (body_counts p) s tt

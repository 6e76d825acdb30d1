use Prim.Native.Nat.{◌+◌, ◌*◌}
use mathlib.Core.Path.{◌≡◌}
use lib.ListN.{length}
use Rattle.walk.specs.Walk.{Walked, Included, terms_step, patterns_step, axioms_step}
use Rattle.walk.proofs.Walks.{measure}
use Rattle.walk.proofs.cycle.+walk.Given as goal

abbrev pub decreases-send_axiom : goal.decreases-send_axiom
decreases-send_axiom l = measure l.book.now l.levels.now 0

abbrev pub decreases-walk_axiom : goal.decreases-walk_axiom
decreases-walk_axiom l = measure l.book.now l.levels.now 1

abbrev pub decreases-walk_axioms : goal.decreases-walk_axioms
decreases-walk_axioms l = measure l.book.now l.levels.now 2

abbrev pub decreases-walk_operator : goal.decreases-walk_operator
decreases-walk_operator l = measure l.book.now l.levels.now 3

abbrev pub decreases-walk_patterns : goal.decreases-walk_patterns
decreases-walk_patterns l = measure l.book.now l.levels.now (4 * l.limit + 4)

abbrev pub decreases-walk_term : goal.decreases-walk_term
decreases-walk_term l = measure l.book.now l.levels.now (4 * l.t + 6)

abbrev pub decreases-walk_terms : goal.decreases-walk_terms
decreases-walk_terms l = measure l.book.now l.levels.now (4 * l.limit + 3)

abbrev pub invariant-walk_axioms-loop-i : goal.invariant-walk_axioms-loop-i
invariant-walk_axioms-loop-i l = Included (axioms_step l.book l.start l.i) l.level l.initial.levels l.levels l.initial.done l.initial.out l.out l.done × (length l.levels ≡ length l.initial.levels)

abbrev pub invariant-walk_patterns-loop-i : goal.invariant-walk_patterns-loop-i
invariant-walk_patterns-loop-i l = Walked (patterns_step l.book l.start l.i) l.exclude.bits l.level l.initial.levels l.levels l.initial.done l.initial.out l.out l.done × (length l.levels ≡ length l.initial.levels)

abbrev pub invariant-walk_terms-loop-i : goal.invariant-walk_terms-loop-i
invariant-walk_terms-loop-i l = Walked (terms_step l.book l.start l.i) l.exclude.bits l.level l.initial.levels l.levels l.initial.done l.initial.out l.out l.done × (length l.levels ≡ length l.initial.levels)

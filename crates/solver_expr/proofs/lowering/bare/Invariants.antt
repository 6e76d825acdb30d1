use Prim.Native.Nat.{ℕ, ◌<◌}
use mathlib.Core.Path.{◌≡◌}
use Rattle.book.specs.Book.{terms, size}
use Rattle.solver_expr.specs.Values.{term_of}
use Rattle.solver_expr.proofs.lowering.bare.Given as goal

abbrev pub invariant-loop-x : goal.invariant-loop-x
invariant-loop-x l = (l.x < size l.book terms) × ((tag : ℕ) → term_of l.book tag l.x ≡ term_of l.book tag l.t)

abbrev pub decreases-loop-x : goal.decreases-loop-x
decreases-loop-x l = l.x

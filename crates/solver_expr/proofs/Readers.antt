-- What the readers of the book ask, of an accepted book.
use Prim.Native.Nat.{ℕ, ◌+◌, ◌≤◌}
use native.Mathlib.Omega.{arith}
use Rattle.book.specs.Book.{Book, letters, names, size, field}
use Rattle.book.specs.Laid.{Laid, Holds}
use Rattle.solver_expr.specs.Values.{Ready}

pub name_ready : {b : Book} {n : ℕ} → Ready b names n → Laid b letters × Holds b names n 1 × (field b names n 0 + field b names n 1 ≤ size b letters)
name_ready {b} {n} r =
    (r.promise.letters_laid, record { laid = r.promise.names_laid; here = r.here; within = omega arith }, (r.promise.name n r.here).ends)

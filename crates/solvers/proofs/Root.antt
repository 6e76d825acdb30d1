-- Where a fresh session stands, on a book that passes the test.
use Prim.Native.Nat.{ℕ, ◌<◌}
use native.Mathlib.Omega.{arith}
use mathlib.Core.Path.{◌≡◌, refl}
use Rattle.basics.specs.Outcome.{accepted}
use Rattle.book.specs.Book.{Book, terms, size}
use Rattle.book.specs.Program.{path, path_up}
use Rattle.book.specs.Decode.{term, program}
use Rattle.book_test.specs.BookTest.{book_test}
use Rattle.book_test.proofs.Promise.{promise}
use Rattle.solver_expr.proofs.Clean.{CleanR}
use Rattle.rsolver.specs.LevelState.{fresh}
use Rattle.solvers.specs.declared.Owed.TheVariants.{Nothing}
use Rattle.solvers.specs.Rule.{standing, Present, present}
use Rattle.solvers.proofs.Good.{Good, good, term_clean}
use Rattle.solvers.proofs.Questions.{Fits}

unfoldable pub root_present : Present
root_present = present 0 0 Nothing

module _ (b : Book) (ok : book_test b ≡ accepted tt) where
  pub G : Good (program b)
  G = good b (promise b ok)

  pub T : (t : ℕ) → t < size b terms → CleanR (term b t)
  T = term_clean b (promise b ok)

  pub fits_start : Fits b root_present
  unfolding root_present present standing path path_up fresh
  fits_start = record { inside = omega arith; clear = refl; asks = refl }

-- Nothing is cut short on a book that passes the test, and `shared` is the deepest node that two paths share (specs/NoFallback.antt).
use Prim.Native.Nat.{ℕ, suc}
use native.Mathlib.Omega.{arith}
use mathlib.Core.Path.{◌≡◌}
use Rattle.basics.specs.Outcome.{accepted}
use Rattle.book.specs.Book.{Book}
use Rattle.book.specs.Program.{path, shared}
use Rattle.book.specs.Decode.{term, program}
use Rattle.book.proofs.Terms.{contexts_length}
use Rattle.book.proofs.Paths.{path_step}
use Rattle.book_test.specs.BookTest.{book_test}
use Rattle.book_test.proofs.Promise.{promise}
use Rattle.book_test.proofs.TermLaw.{term-over}
use Rattle.solvers.specs.NoFallback.{NoFallback, Deepest}
use Rattle.solvers.proofs.Good.{good}
use Rattle.solvers.proofs.Shared.{deepest_shared}
use Rattle.solvers.proofs.PlacedBook.{bounded, term_known}
use Rattle.solvers.proofs.Enough.{levels_length, enough, bodies_enough}
use Rattle.solvers.proofs.BehindBook.{term_same, program_same}
use Rattle.solvers.proofs.BehindProgram.{trace_same}
use Rattle.solvers.proofs.BehindLevels.{move_same, goal_same}
use Rattle.solvers.proofs.BehindBodies.{body_move, body_goal}

pub no_fallback : (b : Book) → book_test b ≡ accepted tt → NoFallback b
no_fallback b ok =
    let P = promise b ok in
    let G = good b P in
    let B = bounded b P in
    record {
      bytes = program_same b P;
      term_bytes = term_same b P;
      kinds = λ t l. (P.term t l).known;
      children = term-over b P;
      paths = λ n. path_step (program b) G.parents (suc n) (omega arith);
      levels = levels_length (program b) G;
      walks = enough b P;
      body_walks = bodies_enough (program b);
      moves = λ x n l. move_same x B G n (omega (arith, contexts_length b));
      goals = λ x t h. goal_same x B (term b t) (term_known b P t h);
      traces = λ x n l. trace_same x (program b) G n (omega (arith, contexts_length b));
      body_moves = λ x n l. body_move x B G n (omega (arith, contexts_length b));
      body_goals = λ x t h. body_goal x B (term b t) (term_known b P t h);
    }

pub shared_deepest : (b : Book) → book_test b ≡ accepted tt → (old new : ℕ) → Deepest (program b) old new (shared (path (program b) old) (path (program b) new))
shared_deepest b ok = deepest_shared (program b) (good b (promise b ok))

-- A session that is the book's and owes nothing stands at its node.
use Prim.Native.Nat.{◌≤◌}
use mathlib.Core.Path.{◌≡◌, ap}
use mathlib.Core.Bool.{true, false}
use Rattle.book.specs.Book.{Book, contexts, size}
use Rattle.book.specs.Decode.{program}
use Rattle.book_test.specs.Promise.{Promise}
use Rattle.engine.specs.Engine.{state_at}
use Rattle.solvers.specs.declared.Owed.TheVariants.{Nothing}
use Rattle.solvers.specs.declared.Session.{Session}
use Rattle.solvers.specs.Calls.{is_session}
use Rattle.solvers.specs.Rule.{present, session_at}
use Rattle.solvers.proofs.ByBook.{known}

module _ (b : Book) (P : Promise b) (s : Session) (v : is_session (program b) s ≡ true) (o : s.owed ≡ Nothing) where
  pub node_in : s.node ≤ size b contexts
  unfolding present
  node_in = (known b P s v o).fits.inside

  pub node-levels : s.levels ≡ (state_at b s.node).levels
  unfolding present session_at
  node-levels = ap (λ (x : Session). x.levels) (known b P s v o).is

  pub node_clear : (state_at b s.node).missing ≡ false
  unfolding present
  node_clear = (known b P s v o).fits.clear

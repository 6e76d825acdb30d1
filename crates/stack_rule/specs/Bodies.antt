-- The accepted calls of a list of events, done by the methods of the Dafny classes on one solver state that is kept from call to call.
-- With `bodies` it is the Dafny's own state; proofs/Bodies.antt shows that it sends what the session's calls send. A growth does nothing
-- to it: its contexts, literals and expressions are those of the newest book.
use Rattle.std.specs.Prelude.{List, [], ◌∷◌}
use Rattle.basics.specs.Outcome.{Outcome, refused, accepted}
use Rattle.book.specs.Book.{Book}
use Rattle.rsolver.specs.Step.{Step}
use Rattle.rsolver.specs.Methods.{Methods}
use Rattle.rsolver.specs.SolverState.{SolverState, new_solver, bodies, bodies_or}
use Rattle.solvers.specs.Session.{Written}
use Rattle.solvers.specs.Calls.{Call, call}
use Rattle.solvers.specs.Bodies.{do_call}
use Rattle.stack_rule.specs.Events.{Event, calls, writes, Trace, happens, start}

module _ {S : Type 0} (M : Methods S) where
  -- a refused call does nothing
  unfoldable pub do_if_accepted : Book → Call → Outcome Written → Step S
  do_if_accepted b c (refused k) s = s
  do_if_accepted b c (accepted w) s = do_call M b c s

  -- the trace says which book is the newest, and which calls are accepted
  unfoldable pub do_event : Trace → Event → Step S
  do_event t (calls c) s = do_if_accepted t.book c (call t.book t.now c) s
  do_event t (writes x) s = s

  unfoldable pub do_from : Trace → List Event → Step S
  do_from t [] s = s
  do_from t (e ∷ es) s = do_from (happens t e) es (do_event t e s)

unfoldable pub do_all : Book → List Event → SolverState
do_all b es = do_from bodies (start b) es new_solver

-- the same, with the step `wrong` wherever Pop is asked of an empty stack
unfoldable pub do_all_or : (wrong : Step SolverState) → Book → List Event → SolverState
do_all_or wrong b es = do_from (bodies_or wrong) (start b) es new_solver

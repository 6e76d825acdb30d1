-- On a book that fails the test every call is refused, and not with 20.
use Prim.Native.Nat.{ℕ}
use native.Mathlib.Omega.{arith}
use mathlib.Core.Path.{◌≡◌}
use mathlib.Core.Bool.{Bool, true, false}
use lib.Dec.{ltb}
use lib.ListN.{length}
use Rattle.basics.specs.Buffer.{scratch_least}
use Rattle.basics.specs.Outcome.{Outcome, accepted, refused, refuse, ◌>>◌}
use Rattle.book.specs.Book.{Book}
use Rattle.book_test.specs.BookTest.{book_test, ready}
use Rattle.solvers.specs.declared.Session.{Session}
use Rattle.solvers.specs.Calls.{move_call, ask_call, reply_call, model_call, Call, move_to, ask_for, reply_with, model_with, call}

abbrev pub Refused : {A : Type 0} → Outcome A → Type 0
Refused (refused k) = k ≡ 20 → ⊥
Refused (accepted a) = ⊥

refused_then : {A : Type 0} (o : Outcome (Unit {0})) (rest : Outcome A) → Refused o → Refused (o >> rest)
unfolding ◌>>◌
refused_then (refused k) rest h = h
refused_then (accepted u) rest h = absurd h

module _ (b : Book) (bad : Refused (book_test b)) where
  not_ready : (scratch : ℕ) → Refused (ready scratch b)
  unfolding ready
  not_ready scratch = at (ltb scratch scratch_least)
    where
      at : (x : Bool) → Refused (refuse 1 x >> book_test b)
      at true = unfold refuse ◌>>◌ in omega arith
      at false = unfold refuse ◌>>◌ in bad

  pub call_refused : (s : Session) (c : Call) → Refused (call b s c)
  unfolding call move_call ask_call reply_call model_call
  call_refused s (move_to h n) = refused_then (ready (length h.scratch) b) _ (not_ready (length h.scratch))
  call_refused s (ask_for h n t) = refused_then (ready (length h.scratch) b) _ (not_ready (length h.scratch))
  call_refused s (reply_with h ok r) = refused_then (ready (length h.scratch) b) _ (not_ready (length h.scratch))
  call_refused s (model_with h r m) = refused_then (ready (length h.scratch) b) _ (not_ready (length h.scratch))

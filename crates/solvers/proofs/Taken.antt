-- An accepted text fits its buffer, and the host takes it whole.
use Prim.Native.Nat.{ℕ, ◌≤◌}
use mathlib.Core.Path.{◌≡◌, refl}
use mathlib.Core.Option.{Option, none, some}
use mathlib.Core.Bool.{Bool, true, false, ◌||◌}
use lib.Dec.{ltb}
use lib.ListN.{length}
use borrow.Author.Tests.{ltb-false}
use Rattle.basics.specs.Outcome.{Outcome, refused, accepted, refuse, ◌>>◌}
use Rattle.basics.proofs.Bool.{or_left}
use Rattle.book.specs.Book.{Book}
use Rattle.solvers.specs.declared.Session.{Session}
use Rattle.solvers.specs.Session.{Written, ProofResult, Proved, Unproved, text_of}
use Rattle.solvers.specs.Calls.{Host, reason_of, fitting, move_call, ask_call, reply_call, model_call, Call, move_to, ask_for, reply_with, model_with, host_of, call}
use Rattle.solvers.specs.Left.{values_by}
use Rattle.solvers.specs.Taken.{text_length}

abbrev pub FitsIn : Host → Outcome Written → Type 0
FitsIn h (refused k) = Unit {0}
FitsIn h (accepted w) = length (text_of w) ≤ length h.text

behind : (h : Host) (o : Outcome (Unit {0})) (rest : Outcome Written) → FitsIn h rest → FitsIn h (o >> rest)
unfolding ◌>>◌
behind h (refused k) rest f = tt
behind h (accepted u) rest f = f

fitting_fits : (h : Host) (w : Written) → FitsIn h (fitting h w)
unfolding fitting
fitting_fits h w = at _ refl
  where
    at : (x : Bool) → (ltb (length h.text) (length (text_of w)) || ltb (length h.reason) (length (reason_of w.result))) ≡ x → FitsIn h (refuse 10 x >> accepted w)
    at true e = unfold refuse ◌>>◌ in tt
    at false e = unfold refuse ◌>>◌ in ltb-false (length h.text) (length (text_of w)) (or_left _ _ e)

pub call_fits : (b : Book) (s : Session) (c : Call) → FitsIn (host_of c) (call b s c)
unfolding call move_call ask_call reply_call model_call host_of
call_fits b s (move_to h n) = behind h _ _ (behind h _ _ (behind h _ _ (behind h _ _ (behind h _ _ (fitting_fits h _)))))
call_fits b s (ask_for h n t) = behind h _ _ (behind h _ _ (behind h _ _ (behind h _ _ (behind h _ _ (fitting_fits h _)))))
call_fits b s (reply_with h ok r) = behind h _ _ (behind h _ _ (behind h _ _ (fitting_fits h _)))
call_fits b s (model_with h r m) = behind h _ _ (behind h _ _ (behind h _ _ (behind h _ _ (fitting_fits h _))))

pub by_length : (r : Option ProofResult) (n : ℕ) → text_length (values_by r n) ≡ n
unfolding text_length values_by
by_length none n = refl
by_length (some Proved) n = refl
by_length (some (Unproved reason)) n = refl

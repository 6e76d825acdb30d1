-- The answer of a printing call: a refusal, or the text.
use Rattle.std.specs.Prelude.{Result, Ok, Err}
use Prim.Native.Nat.{ℕ, ◌≤◌, ◌<◌, min}
use native.Mathlib.Omega.{arith}
use mathlib.Core.Path.{◌≡◌}
use mathlib.Core.Bool.{Bool, true, false}
use mathlib.Core.List.{List}
use lib.ListN.{length}
use borrow.Author.Tests.{lt-ltb, le-ltb}
use Rattle.basics.specs.Text.{Text}
use Rattle.basics.specs.Outcome.{Outcome, refused, accepted, refuse, ◌>>◌, map_outcome}
use Rattle.basics.specs.Buffer.{buffer_after}
use Rattle.basics.specs.Write.{MOST, Wrote}
use Rattle.book.specs.Refusal.{number}
use Rattle.book.specs.declared.Refusal.{Refusal}
use Rattle.book.specs.declared.Refusal.TheVariants.{NotInBook, BufferTooShort}
use Rattle.solver_expr.specs.Print.{fitting, printed_value, Answered}

pub answered_refused : {o : Outcome Text} (ref : Refusal) (t : List ℕ) → o ≡ refused (number ref) → Answered o (Err ref) t t
unfolding printed_value map_outcome buffer_after
answered_refused ref t e = record { answer = rw e; text = rw e }

pub answered_text : {o : Outcome Text} {x : Text} {t t' : List ℕ} {r s : ℕ} → o ≡ accepted x → r ≡ length x → Wrote x t t' s → Answered o (Ok r) t t'
unfolding printed_value map_outcome buffer_after
answered_text e l w = record { answer = rw (e, l); text = rw e w.shown }

-- a text that was measured is shorter than the largest number, so its length is known
pub measured : {n r room : ℕ} → r ≡ min n MOST → r ≤ room → room < MOST → r ≡ n
measured e h k = omega arith

-- a text that fits, and one that is too long
fits : (room : ℕ) (x : Text) → length x ≤ room → fitting room x ≡ accepted x
unfolding fitting refuse ◌>>◌
fits room x h = rw (le-ltb room (length x) h)

too_long : (room : ℕ) (x : Text) → room < length x → fitting room x ≡ refused (number BufferTooShort)
unfolding fitting refuse ◌>>◌ number
too_long room x h = rw (lt-ltb room (length x) h)

pub fitted_done : {x t t' : List ℕ} {n m : ℕ} → n ≡ length x → n ≤ length t → Wrote x t t' m → Answered (fitting (length t) x) (Ok n) t t'
fitted_done {x} {t} e h w = answered_text (fits (length t) x (omega arith)) e w

pub fitted_long : (x : Text) {t : List ℕ} → length t < length x → Answered (fitting (length t) x) (Err BufferTooShort) t t
fitted_long x {t} h = answered_refused BufferTooShort t (too_long (length t) x h)

-- refusal 7, and what comes behind it
pub answered_outside : {test : Bool} (rest : Outcome Text) (t : List ℕ) → test ≡ true → Answered (refuse 7 test >> rest) (Err NotInBook) t t
unfolding refuse ◌>>◌ number
answered_outside rest t e = answered_refused NotInBook t (rw e)

pub answered_inside : {test : Bool} {rest : Outcome Text} {r : Result ℕ Refusal} {t t' : List ℕ} → test ≡ false → Answered rest r t t' → Answered (refuse 7 test >> rest) r t t'
unfolding refuse ◌>>◌
answered_inside e a = rw e a

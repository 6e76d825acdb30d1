-- PROGRAM SCRIPT: what it prints for its standard input.
use Rattle.std.specs.Prelude.{ℕ, zero, suc, ◌+◌, ◌≡◌, List, [], ◌∷◌, ◌++◌, Bool, true, false, ◌&&◌, ◌||◌, eqb, ltb, length, take, drop, replicate, if◌then◌else◌}
use Rattle.basics.specs.Text.{Text, ascii, newline}
use Rattle.basics.specs.Basics.{nat2_string}
use Rattle.basics.specs.Buffer.{scratch_least}
use Rattle.basics.specs.Outcome.{Outcome, refused, accepted}
use Rattle.book.specs.Book.{Book, word}
use Rattle.solvers.specs.declared.Session.{Session}
use Rattle.solvers.specs.Session.{Written, Proved, text_of, closed, fresh_session}
use Rattle.solvers.specs.Calls.{Host, move_to, ask_for, reply_with, call}
use Rattle.solvers.specs.Left.{session_after}
use Rattle.solvers.specs.Returned.{lent}

-- the longest input that is read
abbrev pub input_most : ℕ
input_most = 65536

abbrev pub text_size : ℕ
text_size = 65536

-- bytes of a number, and of a call: kind, node, term
abbrev pub number_size : ℕ
number_size = 4

abbrev pub call_size : ℕ
call_size = 12

unfoldable pub stopped : Text
stopped = ascii "; stopped" ++ (newline ∷ [])

unfoldable pub refused_line : ℕ → Text
refused_line n = ascii "; refused " ++ nat2_string n ++ (newline ∷ [])

pub data Shape : Type 0 where
  moving : (node : ℕ) → Shape
  asking : (node term : ℕ) → Shape
  stopping : Shape

abbrev move_kind : ℕ
move_kind = 1

abbrev ask_kind : ℕ
ask_kind = 2

-- a move carries 0 for its term
unfoldable pub shape_of : (kind node term : ℕ) → Shape
shape_of kind node term =
    if eqb kind move_kind && eqb term 0 then moving node else if eqb kind ask_kind then asking node term else stopping

-- the call at the front; one cut short stops the program
unfoldable pub shape : List ℕ → Shape
shape calls = if ltb (length calls) call_size then stopping else shape_of (word calls 0) (word calls 4) (word calls 8)

-- what the program lends to a call; only the lengths matter
unfoldable pub desk : Host
desk = lent (replicate scratch_least 0) (replicate text_size 0) []

unfoldable pub told : Outcome Written → Text
told (refused n) = refused_line n
told (accepted w) = text_of w

-- what is printed for a call, the session after it, and whether the program goes on
pub record Printed : Type 0 where
  pub text : Text
  pub session : Session
  pub more : Bool

-- the reply to an accepted ask
unfoldable pub reply : Book → Session → Outcome Written
reply b s = call b s (reply_with desk true (ascii "unsat"))

-- THE REPLY TO AN ACCEPTED ASK IS NEVER REFUSED: two pops, and nothing is owed (proofs/Replied.antt)
unfoldable pub Replied : Book → Outcome Written → Type 0
Replied b (refused n) = Unit {0}
Replied b (accepted w) = reply b w.session ≡ accepted (closed w.session Proved)

unfoldable pub answered : Book → Session → Outcome Written → Printed
answered b s (refused n) = record { text = refused_line n; session = s; more = true }
answered b s (accepted w) =
    record { text = text_of w ++ told (reply b w.session); session = session_after (reply b w.session) w.session; more = true }

unfoldable pub turn : Book → Session → Shape → Printed
turn b s (moving node) = let o = call b s (move_to desk node) in record { text = told o; session = session_after o s; more = true }
turn b s (asking node term) = answered b s (call b s (ask_for desk node term))
turn b s stopping = record { text = stopped; session = s; more = false }

-- the text of several calls, and the session after them
pub record Ran : Type 0 where
  pub text : Text
  pub session : Session

unfoldable pub onward : (more : Bool) → Text → Session → (Session → Ran) → Ran
onward false t s next = record { text = t; session = s }
onward true t s next = let r = next s in record { text = t ++ r.text; session = r.session }

-- at most so many calls
unfoldable pub run_for : (most : ℕ) → Book → List ℕ → Session → Ran
run_for zero b calls s = record { text = []; session = s }
run_for (suc most) b [] s = record { text = []; session = s }
run_for (suc most) b (c ∷ cs) s =
    let p = turn b s (shape (c ∷ cs)) in
    onward p.more p.text p.session (run_for most b (drop call_size (c ∷ cs)))

unfoldable pub run : Book → List ℕ → Session → Ran
run b calls s = run_for (length calls) b calls s

-- an input too long, without a length or with a book cut short
unfoldable pub is_cut : List ℕ → Bool
is_cut input = ltb input_most (length input) || ltb (length input) number_size || ltb (length input) (number_size + word input 0)

unfoldable pub book_of : List ℕ → Book
book_of input = take (word input 0) (drop number_size input)

unfoldable pub calls_of : List ℕ → List ℕ
calls_of input = drop (number_size + word input 0) input

unfoldable pub script_output : List ℕ → Text
script_output input = if is_cut input then stopped else (run (book_of input) (calls_of input) fresh_session).text

-- the session at the end
unfoldable pub last_session : List ℕ → Session
last_session input = if is_cut input then fresh_session else (run (book_of input) (calls_of input) fresh_session).session

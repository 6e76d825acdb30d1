-- The four calls of a session: which are refused, by the first line that holds, and what an accepted one gives.
use Rattle.std.specs.Prelude.{ℕ, ◌≤◌, List, [], Bool, true, false, not, ◌&&◌, ◌||◌, eqb, leb, ltb, length}
use Rattle.std.proofs.Math.Option.{Option, none, some}
use Rattle.basics.specs.Text.{Text, same}
use Rattle.basics.specs.Buffer.{scratch_least}
use Rattle.basics.specs.Outcome.{Outcome, accepted, refuse, ◌>>◌}
use Rattle.book.specs.Book.{Book, terms, contexts, size}
use Rattle.book.specs.Program.{Program}
use Rattle.book.specs.Decode.{term, program}
use Rattle.book_test.specs.BookTest.{ready}
use Rattle.rsolver.specs.LevelState.{LevelState, levelled, fresh}
use Rattle.rsolver.specs.REngine.{set_context}
use Rattle.solvers.specs.declared.Owed.{Owed}
use Rattle.solvers.specs.declared.Owed.TheVariants.{Nothing, Reply, Model}
use Rattle.solvers.specs.declared.Session.{Session}
use Rattle.solvers.specs.Session.{Written, ProofResult, Proved, Unproved, text_of, moved, asked, move, ask, give_reply, give_model, is_unsat}

unfoldable pub owes : Owed → Owed → Bool
owes Nothing Nothing = true
owes Nothing Reply = false
owes Nothing Model = false
owes Reply Nothing = false
owes Reply Reply = true
owes Reply Model = false
owes Model Nothing = false
owes Model Reply = false
owes Model Model = true

-- an open question's goal is within the book; where none is open it is 0
unfoldable pub goal_fits : Owed → (goal term_count : ℕ) → Bool
goal_fits Nothing goal term_count = eqb goal 0
goal_fits Reply goal term_count = ltb goal term_count
goal_fits Model goal term_count = ltb goal term_count

-- the session is the one that a fresh session has after a move to its node, but for an open question
unfoldable pub is_session : Program → Session → Bool
is_session p s =
    let at = set_context (levelled p) p s.node fresh in
    leb s.node (length p.contexts) && not at.missing && same s.levels at.levels
    && goal_fits s.owed s.goal (length p.literals)

-- what the host lends to a call
pub record Host : Type 0 where
  pub scratch : List ℕ
  pub text : List ℕ
  pub reason : List ℕ

-- the host lends scratch and text buffer enough
pub record Enough (room : ℕ) (h : Host) : Type 0 where
  pub scratch : scratch_least ≤ length h.scratch
  pub text : room ≤ length h.text

unfoldable pub reason_of : Option ProofResult → Text
reason_of none = []
reason_of (some Proved) = []
reason_of (some (Unproved reason)) = reason

-- a text or reason that fills its buffer fits
unfoldable pub fitting : Host → Written → Outcome Written
fitting h w = do
  refuse 10 (ltb (length h.text) (length (text_of w)) || ltb (length h.reason) (length (reason_of w.result)))
  accepted w

unfoldable pub move_call : Book → Session → Host → (node : ℕ) → Outcome Written
move_call b s h node = do
  ready (length h.scratch) b
  refuse 7 (ltb (size b contexts) node)
  let p = program b
  refuse 20 (not (is_session p s))
  refuse 21 (not (owes s.owed Nothing))
  refuse 9 (moved p s node).missing
  fitting h (move p s node)

unfoldable pub ask_call : Book → Session → Host → (node goal : ℕ) → Outcome Written
ask_call b s h node goal = do
  ready (length h.scratch) b
  refuse 7 (ltb (size b contexts) node || leb (size b terms) goal)
  let p = program b
  refuse 20 (not (is_session p s))
  refuse 21 (not (owes s.owed Nothing))
  refuse 9 (asked p s node (term b goal)).missing
  fitting h (ask p s node goal (term b goal))

unfoldable pub reply_call : Book → Session → Host → (ok : Bool) → Text → Outcome Written
reply_call b s h ok reply = do
  ready (length h.scratch) b
  refuse 20 (not (is_session (program b) s))
  refuse 22 (not (owes s.owed Reply))
  fitting h (give_reply s ok reply)

unfoldable pub model_call : Book → Session → Host → Text → Option Text → Outcome Written
model_call b s h reply model = do
  ready (length h.scratch) b
  refuse 20 (not (is_session (program b) s))
  refuse 23 (not (owes s.owed Model))
  refuse 8 (is_unsat reply)
  fitting h (give_model s reply model)

pub data Call : Type 0 where
  move_to : Host → (node : ℕ) → Call
  ask_for : Host → (node goal : ℕ) → Call
  reply_with : Host → (ok : Bool) → Text → Call  -- false: the check failed, and the text is its error
  model_with : Host → Text → Option Text → Call

unfoldable pub host_of : Call → Host
host_of (move_to h node) = h
host_of (ask_for h node goal) = h
host_of (reply_with h ok reply) = h
host_of (model_with h reply model) = h

unfoldable pub call : Book → Session → Call → Outcome Written
call b s (move_to h node) = move_call b s h node
call b s (ask_for h node goal) = ask_call b s h node goal
call b s (reply_with h ok reply) = reply_call b s h ok reply
call b s (model_with h reply model) = model_call b s h reply model

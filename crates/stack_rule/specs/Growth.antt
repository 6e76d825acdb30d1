-- What a growth of the book leaves as it was. Proved in proofs/: session_kept (GrownCalls), run_grows and never_9_after (Growing).
use Rattle.std.specs.Prelude.{ℕ, ◌≤◌, ◌<◌, ◌≡◌, true, List}
use Rattle.basics.specs.Lists.{member}
use Rattle.basics.specs.Outcome.{refused}
use Rattle.book.specs.Book.{Book, terms, contexts, size}
use Rattle.book.specs.Decode.{program}
use Rattle.solvers.specs.declared.Session.{Session}
use Rattle.solvers.specs.Calls.{is_session, Host, Call, move_to, ask_for, reply_with, model_with, call}
use Rattle.stack_rule.specs.Events.{Event, run}

-- a call whose node and goal are in the book
abbrev pub CallIn : Book → Call → Type 0
CallIn b (move_to h n) = n ≤ size b contexts
CallIn b (ask_for h n t) = (n ≤ size b contexts) × (t < size b terms)
CallIn b (reply_with h ok r) = Unit {0}
CallIn b (model_with h r m) = Unit {0}

-- of a session that is valid on b: it is valid on c, and every call within b has the same outcome on both
pub record SessionKept (b c : Book) (s : Session) : Type 0 where
  pub valid : is_session (program c) s ≡ true
  pub outcomes : (k : Call) → CallIn b k → call c s k ≡ call b s k

-- of a list of nodes that passed: no move to a node of it meets 9, whatever events came before it, and whatever the host lends
abbrev pub Never9After : Book → (nodes : List ℕ) → Type 0
Never9After b nodes =
    (es : List Event) (h : Host) (n : ℕ) → member n nodes ≡ true → ¬ (call (run b es).book (run b es).now (move_to h n) ≡ refused 9)

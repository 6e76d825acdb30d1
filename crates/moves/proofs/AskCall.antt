-- The call ask, by the first refusal that holds.
use Prim.Native.Nat.{ℕ, ◌≤◌, ◌<◌}
use mathlib.Core.Path.{◌≡◌, refl, sym, ◌∙◌}
use mathlib.Core.Bool.{Bool, true, false}
use mathlib.Core.List.{List, []}
use mathlib.Core.Option.{none}
use mathlib.Core.Logic.{◌⊎◌, inl, inr}
use lib.ListN.{length}
use borrow.Author.Tests.{lt-ltb, le-ltb, le-leb, lt-leb}
use Rattle.basics.specs.Outcome.{refuse, ◌>>◌}
use Rattle.basics.specs.Write.{MOST}
use Rattle.book.specs.Refusal.{number}
use Rattle.book.specs.declared.Refusal.TheVariants.{NotInBook, MissingAxiom, BufferTooShort, NoSession, QuestionOpen}
use Rattle.book.specs.Book.{Book, terms, contexts, size}
use Rattle.book.specs.Decode.{term, program}
use Rattle.book_test.specs.BookTest.{ready}
use Rattle.levels.specs.declared.Progress.{Progress}
use Rattle.engine.specs.Engine.{state_at}
use Rattle.solvers.specs.declared.Called.{Called}
use Rattle.solvers.specs.declared.Owed.TheVariants.{Nothing, Reply, Model}
use Rattle.solvers.specs.declared.Session.{Session}
use Rattle.std.specs.Prelude.{Ok, Err}
use Rattle.solvers.specs.declared.Answer.TheVariants as answer
use Rattle.solvers.specs.Session.{Written, session, text_of}
use Rattle.solvers.specs.Calls.{owes, is_session, fitting, ask_for, call}
use Rattle.solvers.specs.Rule.{goal_state, present, session_at}
use Rattle.solvers.specs.ByBook.{ask_by_book, call_by_book}
use Rattle.solvers.specs.Returned.{lent, Given}
use Rattle.solvers.proofs.ByBook.{by_book}
use Rattle.solvers.proofs.Returned.{given_refused, text_long, written}
use Rattle.moves.specs.Moves.{Measured, Arrived, ask_commands, ask_known, ask_in}

module _ (b : Book) (s : Session) (node goal : ℕ) where
  -- the session that is left
  pub there : {ls : List ℕ} → ls ≡ (state_at b node).levels → session node goal Reply ls ≡ session_at b (present node goal Reply)
  unfolding session_at present
  there e i = session node goal Reply (e i)

  left : Written
  left = record { commands = ask_commands b s.node node goal; session = session_at b (present node goal Reply); result = none }

  module _ (t : List ℕ) {m : Progress} (M : Measured (ask_commands b s.node node goal) (goal_state (program b) node (term b goal)) m) where
    pub lacking : m.missing ≡ true → Given (ask_known b s.node (lent [] t []) node goal) s (record { answer = Err MissingAxiom; session = s }) t t [] []
    unfolding ask_known refuse ◌>>◌ number
    lacking h = given_refused (ask_known b s.node (lent [] t []) node goal) MissingAxiom s t [] (rw (sym M.missing ∙ h))

    fitted : m.missing ≡ false → ask_known b s.node (lent [] t []) node goal ≡ fitting (lent [] t []) left
    unfolding ask_known refuse ◌>>◌ left
    fitted h = rw (sym M.missing ∙ h)

    pub too_long : m.missing ≡ false → length t < m.at → Given (ask_known b s.node (lent [] t []) node goal) s (record { answer = Err BufferTooShort; session = s }) t t [] []
    unfolding text_of left
    too_long h l = rw (fitted h) (text_long s left t [] M.counted l)

    pub done : {q : Session} {t' : List ℕ} → m.missing ≡ false → m.at ≤ length t → length t < MOST → Arrived (ask_commands b s.node node goal) (session_at b (present node goal Reply)) q t t'
        → Given (ask_known b s.node (lent [] t []) node goal) s (record { answer = Ok (answer.Written m.at); session = q }) t t' [] []
    unfolding text_of left
    done h l short a = rw (fitted h) (written s left t [] M.counted l short a.text a.is refl)

  -- in a book that passed its test
  module _ (t : List ℕ) where
    pub not_here : size b contexts < node → Given (ask_in b s (lent [] t []) node goal) s (record { answer = Err NotInBook; session = s }) t t [] []
    unfolding ask_in refuse ◌>>◌ number
    not_here h = given_refused (ask_in b s (lent [] t []) node goal) NotInBook s t [] (rw (lt-ltb (size b contexts) node h))

    pub no-term : node ≤ size b contexts → size b terms ≤ goal → Given (ask_in b s (lent [] t []) node goal) s (record { answer = Err NotInBook; session = s }) t t [] []
    unfolding ask_in refuse ◌>>◌ number
    no-term h k = given_refused (ask_in b s (lent [] t []) node goal) NotInBook s t [] (rw (le-ltb (size b contexts) node h, le-leb (size b terms) goal k))

    module _ (here : node ≤ size b contexts) (asked : goal < size b terms) where
      pub not_session : {x : Bool} → x ≡ is_session (program b) s → x ≡ false → Given (ask_in b s (lent [] t []) node goal) s (record { answer = Err NoSession; session = s }) t t [] []
      unfolding ask_in refuse ◌>>◌ number
      not_session e f = given_refused (ask_in b s (lent [] t []) node goal) NoSession s t [] (rw (le-ltb (size b contexts) node here, lt-leb (size b terms) goal asked, sym e ∙ f))

      module _ {x : Bool} (e : x ≡ is_session (program b) s) (f : x ≡ true) where
        question_open : owes s.owed Nothing ≡ false → Given (ask_in b s (lent [] t []) node goal) s (record { answer = Err QuestionOpen; session = s }) t t [] []
        unfolding ask_in refuse ◌>>◌ number
        question_open h = given_refused (ask_in b s (lent [] t []) node goal) QuestionOpen s t [] (rw (le-ltb (size b contexts) node here, lt-leb (size b terms) goal asked, sym e ∙ f, h))

        pub not_free : (s.owed ≡ Reply) ⊎ (s.owed ≡ Model) → Given (ask_in b s (lent [] t []) node goal) s (record { answer = Err QuestionOpen; session = s }) t t [] []
        unfolding owes
        not_free (inl h) = question_open (rw h)
        not_free (inr h) = question_open (rw h)

        known : s.owed ≡ Nothing → ask_in b s (lent [] t []) node goal ≡ ask_known b s.node (lent [] t []) node goal
        unfolding ask_in refuse ◌>>◌ owes
        known h = rw (le-ltb (size b contexts) node here, lt-leb (size b terms) goal asked, sym e ∙ f, h)

        pub free : {r : Called} {t' : List ℕ} → s.owed ≡ Nothing → Given (ask_known b s.node (lent [] t []) node goal) s r t t' [] [] → Given (ask_in b s (lent [] t []) node goal) s r t t' [] []
        free h g = rw (known h) g

  -- the whole call
  pub is_call : (scratch t : List ℕ) → call b s (ask_for (lent scratch t []) node goal) ≡ (ready (length scratch) b >> ask_in b s (lent [] t []) node goal)
  unfolding call_by_book ask_by_book ask_in ask_known fitting ask_commands
  is_call scratch t = by_book b s (ask_for (lent scratch t []) node goal)

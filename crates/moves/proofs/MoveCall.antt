-- The call move, by the first refusal that holds.
use Prim.Native.Nat.{ℕ, ◌≤◌, ◌<◌}
use mathlib.Core.Path.{◌≡◌, refl, sym, ◌∙◌}
use mathlib.Core.Bool.{Bool, true, false}
use mathlib.Core.List.{List, []}
use mathlib.Core.Option.{none}
use mathlib.Core.Logic.{◌⊎◌, inl, inr}
use lib.ListN.{length}
use borrow.Author.Tests.{lt-ltb, le-ltb}
use Rattle.basics.specs.Outcome.{refuse, ◌>>◌}
use Rattle.basics.specs.Write.{MOST}
use Rattle.book.specs.Refusal.{number}
use Rattle.book.specs.declared.Refusal.TheVariants.{NotInBook, MissingAxiom, BufferTooShort, NoSession, QuestionOpen}
use Rattle.book.specs.Book.{Book, contexts, size}
use Rattle.book.specs.Decode.{program}
use Rattle.book_test.specs.BookTest.{ready}
use Rattle.levels.specs.declared.Progress.{Progress}
use Rattle.engine.specs.Engine.{state_at}
use Rattle.solvers.specs.declared.Called.{Called}
use Rattle.solvers.specs.declared.Owed.TheVariants.{Nothing, Reply, Model}
use Rattle.solvers.specs.declared.Session.{Session}
use Rattle.std.specs.Prelude.{Ok, Err}
use Rattle.solvers.specs.declared.Answer.TheVariants as answer
use Rattle.solvers.specs.Session.{Written, session, text_of}
use Rattle.solvers.specs.Calls.{owes, is_session, fitting, move_to, call}
use Rattle.solvers.specs.Rule.{move_commands, present, session_at}
use Rattle.solvers.specs.ByBook.{move_by_book, call_by_book}
use Rattle.solvers.specs.Returned.{lent, Given}
use Rattle.solvers.proofs.ByBook.{by_book}
use Rattle.solvers.proofs.Returned.{given_refused, text_long, written}
use Rattle.moves.specs.Moves.{Measured, Arrived, move_known, move_in}

module _ (b : Book) (s : Session) (node : ℕ) where
  -- the session that is left
  pub there : {ls : List ℕ} → ls ≡ (state_at b node).levels → session node 0 Nothing ls ≡ session_at b (present node 0 Nothing)
  unfolding session_at present
  there e i = session node 0 Nothing (e i)

  left : Written
  left = record { commands = move_commands (program b) s.node node; session = session_at b (present node 0 Nothing); result = none }

  module _ (t : List ℕ) {m : Progress} (M : Measured (move_commands (program b) s.node node) (state_at b node) m) where
    pub lacking : m.missing ≡ true → Given (move_known b s.node (lent [] t []) node) s (record { answer = Err MissingAxiom; session = s }) t t [] []
    unfolding move_known refuse ◌>>◌ number
    lacking h = given_refused (move_known b s.node (lent [] t []) node) MissingAxiom s t [] (rw (sym M.missing ∙ h))

    fitted : m.missing ≡ false → move_known b s.node (lent [] t []) node ≡ fitting (lent [] t []) left
    unfolding move_known refuse ◌>>◌ left
    fitted h = rw (sym M.missing ∙ h)

    pub too_long : m.missing ≡ false → length t < m.at → Given (move_known b s.node (lent [] t []) node) s (record { answer = Err BufferTooShort; session = s }) t t [] []
    unfolding text_of left
    too_long h l = rw (fitted h) (text_long s left t [] M.counted l)

    pub done : {q : Session} {t' : List ℕ} → m.missing ≡ false → m.at ≤ length t → length t < MOST → Arrived (move_commands (program b) s.node node) (session_at b (present node 0 Nothing)) q t t'
        → Given (move_known b s.node (lent [] t []) node) s (record { answer = Ok (answer.Written m.at); session = q }) t t' [] []
    unfolding text_of left
    done h l short a = rw (fitted h) (written s left t [] M.counted l short a.text a.is refl)

  -- in a book that passed its test
  module _ (t : List ℕ) where
    pub not_here : size b contexts < node → Given (move_in b s (lent [] t []) node) s (record { answer = Err NotInBook; session = s }) t t [] []
    unfolding move_in refuse ◌>>◌ number
    not_here h = given_refused (move_in b s (lent [] t []) node) NotInBook s t [] (rw (lt-ltb (size b contexts) node h))

    module _ (here : node ≤ size b contexts) where
      pub not_session : {x : Bool} → x ≡ is_session (program b) s → x ≡ false → Given (move_in b s (lent [] t []) node) s (record { answer = Err NoSession; session = s }) t t [] []
      unfolding move_in refuse ◌>>◌ number
      not_session e f = given_refused (move_in b s (lent [] t []) node) NoSession s t [] (rw (le-ltb (size b contexts) node here, sym e ∙ f))

      module _ {x : Bool} (e : x ≡ is_session (program b) s) (f : x ≡ true) where
        question_open : owes s.owed Nothing ≡ false → Given (move_in b s (lent [] t []) node) s (record { answer = Err QuestionOpen; session = s }) t t [] []
        unfolding move_in refuse ◌>>◌ number
        question_open h = given_refused (move_in b s (lent [] t []) node) QuestionOpen s t [] (rw (le-ltb (size b contexts) node here, sym e ∙ f, h))

        pub not_free : (s.owed ≡ Reply) ⊎ (s.owed ≡ Model) → Given (move_in b s (lent [] t []) node) s (record { answer = Err QuestionOpen; session = s }) t t [] []
        unfolding owes
        not_free (inl h) = question_open (rw h)
        not_free (inr h) = question_open (rw h)

        known : s.owed ≡ Nothing → move_in b s (lent [] t []) node ≡ move_known b s.node (lent [] t []) node
        unfolding move_in refuse ◌>>◌ owes
        known h = rw (le-ltb (size b contexts) node here, sym e ∙ f, h)

        pub free : {r : Called} {t' : List ℕ} → s.owed ≡ Nothing → Given (move_known b s.node (lent [] t []) node) s r t t' [] [] → Given (move_in b s (lent [] t []) node) s r t t' [] []
        free h g = rw (known h) g

  -- the whole call
  pub is_call : (scratch t : List ℕ) → call b s (move_to (lent scratch t []) node) ≡ (ready (length scratch) b >> move_in b s (lent [] t []) node)
  unfolding call_by_book move_by_book move_in move_known fitting
  is_call scratch t = by_book b s (move_to (lent scratch t []) node)

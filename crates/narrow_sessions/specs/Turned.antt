-- What the code of a turn returns and leaves, against the definitions.
use Rattle.std.specs.Prelude.{ℕ, ◌≡◌, not, List, eqb, ltb, if◌then◌else◌, Result}
use Rattle.basics.specs.Outcome.{Outcome, accepted, refuse, ◌>>◌}
use Rattle.book.specs.Book.{Book}
use Rattle.book.specs.Program.{depth}
use Rattle.book.specs.Decode.{program}
use Rattle.book.specs.declared.Refusal.{Refusal}
use Rattle.solvers.specs.declared.Session.{Session}
use Rattle.solvers.specs.declared.NarrowSession.{NarrowSession}
use Rattle.solvers.specs.Calls.{is_session}
use Rattle.solvers.specs.Narrow.{narrow_depth, wide_of, narrow_of, is_narrow, Turned, answer_of, or_else, TurnLeft}
use Rattle.book_test.specs.BookTest.{tested_value}
use Rattle.solvers.specs.Returned.{outcome_of}

-- the turns behind the book test
unfoldable pub widened_in : Book → NarrowSession → Outcome Session
widened_in b s = do
  refuse 20 (not (is_narrow (program b) s))
  accepted (wide_of s)

unfoldable pub narrowed_in : Book → Session → Outcome NarrowSession
narrowed_in b s = do
  refuse 20 (not (is_session (program b) s))
  refuse 24 (ltb narrow_depth (depth (program b) s.node))
  accepted (narrow_of s)

-- THE TURNS by value: answer, session and scratch are the definition's; where none is returned, `none` stands for it
pub record TurnReturned {S : Type 0} (l : Turned S) (none : S) (r : Result S Refusal) (scratch : List ℕ) : Type 0 where
  pub answer : answer_of (outcome_of r) ≡ l.answer
  pub session : or_else none (outcome_of r) ≡ l.session
  pub scratch'' : scratch ≡ l.scratch

-- what is taken where there is room for just an image, and what else
unfoldable pub for_room : {A : Type 0} → (room size : ℕ) → A → A → A
for_room room size fits other = if eqb room size then fits else other

-- THE TURNS on images: answer, buffer and scratch are the definition's
pub record ImageTurned (l : TurnLeft) (r : Result (Unit {0}) Refusal) (image scratch : List ℕ) : Type 0 where
  pub answer : tested_value r ≡ l.answer
  pub image'' : image ≡ l.image
  pub scratch'' : scratch ≡ l.scratch

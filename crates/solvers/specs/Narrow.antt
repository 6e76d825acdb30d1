-- The narrow kind of a session, which stores one byte for each level, and its turns to the wide kind, which every other call takes, and back.
use Rattle.std.specs.Prelude.{ℕ, ◌+◌, ◌≤◌, ◌<◌, ◌≡◌, Bool, true, not, ◌&&◌, List, ◌++◌, eqb, leb, ltb, length, get_or, drop, if◌then◌else◌}
use Rattle.basics.specs.Outcome.{Outcome, refused, accepted, refuse, ◌>>◌}
use Rattle.basics.specs.Buffer.{buffer_after, scratch_least, scratch_after}
use Rattle.book.specs.Book.{Book, word}
use Rattle.book.specs.Program.{Program, depth}
use Rattle.book.specs.Decode.{program}
use Rattle.book_test.specs.BookTest.{ready}
use Rattle.rsolver.specs.LevelState.{level_count}
use Rattle.solvers.specs.declared.Owed.{Owed}
use Rattle.solvers.specs.declared.Session.{Session}
use Rattle.solvers.specs.declared.NarrowSession.{NarrowSession}
use Rattle.solvers.specs.Session.{session}
use Rattle.solvers.specs.Calls.{is_session}
use Rattle.solvers.specs.Image.{head_size, image_size, owed_of, head_of, write_image, no_session, is_kind, read_image}

-- a narrow session's node is at most this deep
abbrev pub narrow_depth : ℕ
narrow_depth = 64

abbrev pub narrow_session : ℕ → ℕ → Owed → List ℕ → NarrowSession
narrow_session n g o ls = record { node = n; goal = g; owed = o; levels = ls }

-- the same node, levels and question
unfoldable pub wide_of : NarrowSession → Session
wide_of s = session s.node s.goal s.owed s.levels

unfoldable pub narrow_of : Session → NarrowSession
narrow_of s = narrow_session s.node s.goal s.owed s.levels

-- the depth is the node's: neither the largest level nor the two levels of an open question count
unfoldable pub is_narrow : Program → NarrowSession → Bool
is_narrow p s = is_session p (wide_of s) && leb (depth p s.node) narrow_depth

unfoldable pub widened : (scratch : ℕ) → Book → NarrowSession → Outcome Session
widened scratch b s = do
  ready scratch b
  refuse 20 (not (is_narrow (program b) s))
  accepted (wide_of s)

unfoldable pub narrowed : (scratch : ℕ) → Book → Session → Outcome NarrowSession
narrowed scratch b s = do
  ready scratch b
  refuse 20 (not (is_session (program b) s))
  refuse 24 (ltb narrow_depth (depth (program b) s.node))
  accepted (narrow_of s)

-- ---- the byte image of the narrow kind
abbrev pub narrow_kind : ℕ
narrow_kind = 1

abbrev pub narrow_size : ℕ
narrow_size = head_size + level_count

unfoldable pub write_narrow : NarrowSession → List ℕ
write_narrow s = head_of narrow_kind s.node s.goal s.owed ++ s.levels

unfoldable pub no_narrow : NarrowSession
no_narrow = narrow_of no_session

unfoldable pub is_narrow_image : List ℕ → Bool
is_narrow_image image = is_kind narrow_kind narrow_size image

unfoldable pub read_narrow : List ℕ → NarrowSession
read_narrow image =
    if is_narrow_image image then narrow_session (word image 4) (word image 8) (owed_of (word image 12)) (drop head_size image) else no_narrow

-- ---- THE TURNS by value: a session of the other kind has to be given, and a refused turn gives one that every call refuses
pub record Turned (S : Type 0) : Type 0 where
  pub answer : Outcome (Unit {0})
  pub session : S
  pub scratch : List ℕ

unfoldable pub answer_of : {A : Type 0} → Outcome A → Outcome (Unit {0})
answer_of (refused n) = refused n
answer_of (accepted a) = accepted tt

unfoldable pub or_else : {A : Type 0} → A → Outcome A → A
or_else none (refused n) = none
or_else none (accepted a) = a

unfoldable pub widen_call : Book → NarrowSession → (scratch : List ℕ) → Turned Session
widen_call b s scratch =
    let o = widened (length scratch) b s in
    record { answer = answer_of o; session = or_else no_session o; scratch = scratch_after scratch }

unfoldable pub narrow_call : Book → Session → (scratch : List ℕ) → Turned NarrowSession
narrow_call b s scratch =
    let o = narrowed (length scratch) b s in
    record { answer = answer_of o; session = or_else no_narrow o; scratch = scratch_after scratch }

-- ---- THE TURNS on images: the image received is only read, the other is written from byte 0 of a buffer of its own. A buffer of another
-- length than the image's is 20
unfoldable pub widened_into : (scratch room : ℕ) → Book → NarrowSession → Outcome Session
widened_into scratch room b s = do
  ready scratch b
  refuse 20 (not (eqb room image_size))
  widened scratch b s

unfoldable pub narrowed_into : (scratch room : ℕ) → Book → Session → Outcome NarrowSession
narrowed_into scratch room b s = do
  ready scratch b
  refuse 20 (not (eqb room narrow_size))
  narrowed scratch b s

-- what is left in the buffer of the other image, and in the scratch
pub record TurnLeft : Type 0 where
  pub answer : Outcome (Unit {0})
  pub image : List ℕ
  pub scratch : List ℕ

unfoldable pub widened_on_image : Book → (scratch narrow image : List ℕ) → TurnLeft
widened_on_image b scratch narrow image =
    let o = widened_into (length scratch) (length image) b (read_narrow narrow) in
    record { answer = answer_of o; image = buffer_after o write_image image; scratch = scratch_after scratch }

unfoldable pub narrowed_on_image : Book → (scratch image narrow : List ℕ) → TurnLeft
narrowed_on_image b scratch image narrow =
    let o = narrowed_into (length scratch) (length narrow) b (read_image image) in
    record { answer = answer_of o; image = buffer_after o write_narrow narrow; scratch = scratch_after scratch }

-- ---- the pair of turns gives the session that it began with
pub record Turns (b : Book) (scratch : ℕ) : Type 0 where
  pub back : (s : NarrowSession) (w : Session) → widened scratch b s ≡ accepted w → narrowed scratch b w ≡ accepted s
  pub forth : (w : Session) (s : NarrowSession) → narrowed scratch b w ≡ accepted s → widened scratch b s ≡ accepted w
  -- it turns back exactly if its node is at most 64 deep
  pub exactly : (w : Session) → ready scratch b ≡ accepted tt → is_session (program b) w ≡ true
      → narrowed scratch b w ≡ (if leb (depth (program b) w.node) narrow_depth then accepted (narrow_of w) else refused 24)

abbrev pub Bytes : List ℕ → Type 0
Bytes xs = (i : ℕ) → i < length xs → get_or xs i 0 < 256

-- the same of images: what a turn has written is turned back into the bytes that it came from, with any scratch that is long enough and
-- in any buffer of their length
pub record ImageTurns (b : Book) : Type 0 where
  pub back : (scratch narrow image again other : List ℕ) → Bytes narrow → scratch_least ≤ length again → length other ≡ narrow_size
      → (widened_on_image b scratch narrow image).answer ≡ accepted tt
      → let l = narrowed_on_image b again (widened_on_image b scratch narrow image).image other in (l.answer ≡ accepted tt) × (l.image ≡ narrow)
  pub forth : (scratch image narrow again other : List ℕ) → Bytes image → scratch_least ≤ length again → length other ≡ image_size
      → (narrowed_on_image b scratch image narrow).answer ≡ accepted tt
      → let l = widened_on_image b again (narrowed_on_image b scratch image narrow).image other in (l.answer ≡ accepted tt) × (l.image ≡ image)

-- The turns by value: the first refusal that holds, or the session as the other kind.
use Prim.Native.Nat.{ℕ, ◌≤◌, ◌<◌}
use native.Mathlib.Omega.{arith}
use mathlib.Core.Path.{◌≡◌, refl, sym, ◌∙◌}
use mathlib.Core.Bool.{Bool, true, false}
use mathlib.Core.List.{List}
use lib.Dec.{ltb}
use lib.ListN.{length}
use borrow.Author.Tests.{le-leb, lt-leb, ltb-true, ltb-false}
use Rattle.basics.specs.Outcome.{Outcome, refuse, ◌>>◌}
use Rattle.basics.specs.Buffer.{scratch_after}
use Rattle.basics.proofs.All.{all-at}
use Rattle.book.specs.Refusal.{number}
use Rattle.book.specs.declared.Refusal.{Refusal}
use Rattle.book.specs.declared.Refusal.TheVariants.{NoSession, TooDeepForNarrow}
use Rattle.book.specs.Book.{Book}
use Rattle.book.specs.Program.{depth}
use Rattle.book.specs.Decode.{program}
use Rattle.book_test.specs.BookTest.{ready, tested_value, book_test_call}
use Rattle.book_test.specs.Promise.{Promise}
use Rattle.std.specs.Prelude.{Result, Ok, Err}
use Rattle.contexts.specs.Path.{IsNode}
use Rattle.solvers.specs.declared.Session.{Session}
use Rattle.solvers.specs.declared.NarrowSession.{NarrowSession}
use Rattle.solvers.specs.Calls.{is_session}
use Rattle.solvers.specs.Image.{no_session}
use Rattle.solvers.specs.Narrow.{narrow_depth, wide_of, narrow_of, is_narrow, widened, narrowed, no_narrow, Turned, answer_of, or_else, widen_call, narrow_call, Bytes}
use Rattle.solvers.proofs.Returned.{stops, passes}
use Rattle.solvers.specs.Returned.{outcome_of}
use Rattle.solvers.proofs.IsSession.{stands, within_depth}
use Rattle.narrow_sessions.specs.Turned.{widened_in, narrowed_in, TurnReturned}

-- ---- wide
module _ (b : Book) (s : NarrowSession) {w : Session} (e : w ≡ wide_of s) where
  pub widen_outside : is_session (program b) w ≡ false → outcome_of (Err NoSession) ≡ widened_in b s
  widen_outside h = unfold outcome_of widened_in is_narrow refuse ◌>>◌ number in rw (rw e at h)

  pub widen_deep : {x : Bool} → is_session (program b) w ≡ true → x ≡ ltb narrow_depth (depth (program b) w.node) → x ≡ true
      → outcome_of (Err NoSession) ≡ widened_in b s
  widen_deep h k t =
      let deep : narrow_depth < depth (program b) s.node = unfold wide_of in rw e at (ltb-true narrow_depth (depth (program b) w.node) (sym k ∙ t)) in
      unfold outcome_of widened_in is_narrow refuse ◌>>◌ number in rw (rw e at h, lt-leb (depth (program b) s.node) narrow_depth deep)

  pub widen_done : {x : Bool} → is_session (program b) w ≡ true → x ≡ ltb narrow_depth (depth (program b) w.node) → x ≡ false → outcome_of (Ok w) ≡ widened_in b s
  widen_done h k t =
      let shallow : depth (program b) s.node ≤ narrow_depth = unfold wide_of in rw e at (ltb-false narrow_depth (depth (program b) w.node) (sym k ∙ t)) in
      unfold outcome_of widened_in is_narrow refuse ◌>>◌ in rw (e, rw e at h, le-leb (depth (program b) s.node) narrow_depth shallow)

-- ---- back
module _ (b : Book) (w : Session) where
  pub narrow_outside : is_session (program b) w ≡ false → outcome_of (Err NoSession) ≡ narrowed_in b w
  narrow_outside h = unfold outcome_of narrowed_in refuse ◌>>◌ number in rw h

  pub narrow_deep : {x : Bool} → is_session (program b) w ≡ true → x ≡ ltb narrow_depth (depth (program b) w.node) → x ≡ true
      → outcome_of (Err TooDeepForNarrow) ≡ narrowed_in b w
  narrow_deep h k t = unfold outcome_of narrowed_in refuse ◌>>◌ number in rw (h, sym k ∙ t)

  pub narrow_done : {q : NarrowSession} {x : Bool} → is_session (program b) w ≡ true → x ≡ ltb narrow_depth (depth (program b) w.node) → x ≡ false → q ≡ narrow_of w
      → outcome_of (Ok q) ≡ narrowed_in b w
  narrow_done h k t e = unfold outcome_of narrowed_in refuse ◌>>◌ in rw (e, h, sym k ∙ t)

module _ (b : Book) (P : Promise b) (w : Session) (h : is_session (program b) w ≡ true) where
  pub is_node : IsNode b w.node
  is_node = record { promise = P; inside = (stands b P w h).inside }

  -- a level is at most as deep as the node
  pub levels_bytes : {x : Bool} → x ≡ ltb narrow_depth (depth (program b) w.node) → x ≡ false → Bytes w.levels
  levels_bytes k t i j = omega (arith, all-at (within_depth b P w h) i 0 j, ltb-false narrow_depth (depth (program b) w.node) (sym k ∙ t))

-- ---- behind the book test
unfoldable pub turn : {S : Type 0} → Book → (scratch : List ℕ) → S → Outcome S → Turned S
turn b scratch none o =
    record {
      answer = answer_of (ready (length scratch) b >> o);
      session = or_else none (ready (length scratch) b >> o);
      scratch = scratch_after scratch;
    }

pub widen_turn : (b : Book) (s : NarrowSession) (scratch : List ℕ) → turn b scratch no_session (widened_in b s) ≡ widen_call b s scratch
unfolding turn widen_call widened widened_in
widen_turn b s scratch = refl

pub narrow_turn : (b : Book) (s : Session) (scratch : List ℕ) → turn b scratch no_narrow (narrowed_in b s) ≡ narrow_call b s scratch
unfolding turn narrow_call narrowed narrowed_in
narrow_turn b s scratch = refl

module _ {S : Type 0} (b : Book) (scratch : List ℕ) (none : S) (o : Outcome S) {l : Turned S} (is : turn b scratch none o ≡ l) {d : Result (Unit {0}) Refusal} {scratch' : List ℕ}
    (h : (tested_value d ≡ (book_test_call b scratch).answer) × (scratch' ≡ (book_test_call b scratch).scratch)) where
  pub turn_stops : {why : Refusal} → d ≡ Err why → TurnReturned l none (Err why) scratch'
  unfolding turn ◌>>◌ book_test_call outcome_of answer_of or_else
  turn_stops e = let t = stops b scratch h.0 e in rw (sym is) (record { answer = rw t; session = rw t; scratch'' = h.1 })

  pub turn_passes : {u : Unit {0}} {r : Result S Refusal} → d ≡ Ok u → outcome_of r ≡ o → TurnReturned l none r scratch'
  unfolding turn ◌>>◌ book_test_call
  turn_passes e g = let t = passes b scratch h.0 e in rw (sym is) (record { answer = rw (t, g); session = rw (t, g); scratch'' = h.1 })

-- A session turned wide and back, or back and wide again, is the one that it began with.
use Rattle.std.specs.Prelude.{if◌then◌else◌}
use Prim.Native.Nat.{ℕ, ◌≤◌}
use mathlib.Core.Path.{◌≡◌, refl, sym, ◌∙◌}
use mathlib.Core.Bool.{Bool, true, false, not}
use lib.Dec.{leb, ltb}
use borrow.Author.Tests.{leb-true, leb-false, le-leb, ltb-false, le-ltb, lt-ltb, not-false}
use Rattle.basics.specs.Buffer.{scratch_least}
use Rattle.basics.specs.Outcome.{refused, accepted, refuse, ◌>>◌}
use Rattle.basics.proofs.Bool.{and_both}
use Rattle.book.specs.Book.{Book}
use Rattle.book.specs.Program.{depth}
use Rattle.book.specs.Decode.{program}
use Rattle.book_test.specs.BookTest.{ready}
use Rattle.book_test.proofs.Outcomes.{passed, both, same_answer, ready_passed}
use Rattle.book_test.proofs.Answers.{ready_long}
use Rattle.solvers.specs.declared.Session.{Session}
use Rattle.solvers.specs.declared.NarrowSession.{NarrowSession}
use Rattle.solvers.specs.Calls.{is_session}
use Rattle.solvers.specs.Narrow.{narrow_depth, wide_of, narrow_of, is_narrow, widened, narrowed, Turns}

module _ (b : Book) (scratch : ℕ) where
  -- ---- an accepted turn: what held, and what it gave
  pub record Turnable (w : Session) : Type 0 where
    pub tested : ready scratch b ≡ accepted tt
    pub session : is_session (program b) w ≡ true
    pub shallow : depth (program b) w.node ≤ narrow_depth

  pub widened_told : (s : NarrowSession) (w : Session) → widened scratch b s ≡ accepted w → Turnable w × (wide_of s ≡ w)
  unfolding widened is_narrow wide_of
  widened_told s w e =
      let r1 = both (ready scratch b) _ e in
      let r2 = passed 20 (not (is_narrow (program b) s)) _ r1.1 in
      let ok = and_both (is_session (program b) (wide_of s)) (leb (depth (program b) s.node) narrow_depth) (not-false (is_narrow (program b) s) r2.0) in
      let is : wide_of s ≡ w = same_answer r2.1 in
      (rw (sym is) (record { tested = r1.0; session = ok.0; shallow = leb-true (depth (program b) s.node) narrow_depth ok.1 }), is)

  pub narrowed_told : (w : Session) (s : NarrowSession) → narrowed scratch b w ≡ accepted s → Turnable w × (narrow_of w ≡ s)
  unfolding narrowed
  narrowed_told w s e =
      let r1 = both (ready scratch b) _ e in
      let r2 = passed 20 (not (is_session (program b) w)) _ r1.1 in
      let r3 = passed 24 (ltb narrow_depth (depth (program b) w.node)) _ r2.1 in (
        record {
          tested = r1.0;
          session = not-false (is_session (program b) w) r2.0;
          shallow = ltb-false narrow_depth (depth (program b) w.node) r3.0;
        },
        same_answer r3.1,
      )

  -- ---- where that holds the turn is accepted
  pub widens : (w : Session) → Turnable w → widened scratch b (narrow_of w) ≡ accepted w
  unfolding widened is_narrow wide_of narrow_of refuse ◌>>◌
  widens w t = rw (t.tested, t.session, le-leb (depth (program b) w.node) narrow_depth t.shallow)

  pub narrows : (w : Session) → Turnable w → narrowed scratch b w ≡ accepted (narrow_of w)
  unfolding narrowed refuse ◌>>◌
  narrows w t = rw (t.tested, t.session, le-ltb narrow_depth (depth (program b) w.node) t.shallow)

  back : (s : NarrowSession) (w : Session) → widened scratch b s ≡ accepted w → narrowed scratch b w ≡ accepted s
  unfolding wide_of narrow_of
  back s w e = let r = widened_told s w e in rw (sym r.1) (narrows (wide_of s) (rw (sym r.1) at r.0))

  forth : (w : Session) (s : NarrowSession) → narrowed scratch b w ≡ accepted s → widened scratch b s ≡ accepted w
  forth w s e = let r = narrowed_told w s e in rw (sym r.1) (widens w r.0)

  exactly : (w : Session) → ready scratch b ≡ accepted tt → is_session (program b) w ≡ true
      → narrowed scratch b w ≡ (if leb (depth (program b) w.node) narrow_depth then accepted (narrow_of w) else refused 24)
  unfolding narrowed refuse ◌>>◌
  exactly w t e = at (leb (depth (program b) w.node) narrow_depth) refl
    where
      at : (x : Bool) → leb (depth (program b) w.node) narrow_depth ≡ x → narrowed scratch b w ≡ (if x then accepted (narrow_of w) else refused 24)
      at true h = narrows w (record { tested = t; session = e; shallow = leb-true (depth (program b) w.node) narrow_depth h })
      at false h = rw (t, e, lt-ltb narrow_depth (depth (program b) w.node) (leb-false (depth (program b) w.node) narrow_depth h))

  pub turns : Turns b scratch
  turns = record { back = back; forth = forth; exactly = exactly }

-- another scratch that is long enough changes nothing
ready_again : (b : Book) (n m : ℕ) → scratch_least ≤ m → ready n b ≡ accepted tt → ready m b ≡ accepted tt
ready_again b n m h e = sym (ready_long b m h) ∙ (ready_passed n b e).1

pub turnable_again : (b : Book) (n m : ℕ) → scratch_least ≤ m → (w : Session) → Turnable b n w → Turnable b m w
turnable_again b n m h w t = record { tested = ready_again b n m h t.tested; session = t.session; shallow = t.shallow }

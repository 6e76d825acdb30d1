-- A call of the writer that tests its book first: refused as the test says, or answered by what stands behind the test.
use Rattle.std.specs.Prelude.{Result, Ok, Err}
use Prim.Native.Nat.{ℕ, ◌≤◌, ◌<◌}
use native.Mathlib.Omega.{arith}
use mathlib.Core.Path.{◌≡◌, refl, sym, ap, ◌∙◌}
use mathlib.Core.Bool.{Bool, true, false, not}
use mathlib.Core.List.{List}
use lib.Dec.{ltb, leb}
use lib.ListN.{length, replicate, length-replicate}
use borrow.Author.Tests.{lt-ltb, le-ltb, lt-leb, le-leb}
use Rattle.basics.specs.Outcome.{refused, accepted, refuse, ◌>>◌, map_outcome}
use Rattle.basics.specs.Buffer.{scratch_least, scratch_after, buffer_after}
use Rattle.book.specs.Refusal.{number}
use Rattle.book.specs.declared.Refusal.{Refusal}
use Rattle.book.specs.declared.Refusal.TheVariants.{NotInBook}
use Rattle.std.proofs.Math.Bool.{or-true}
use Rattle.book.specs.Book.{Book, terms, contexts, size}
use Rattle.book_test.specs.BookTest.{ready, book_test_call, tested_value}
use Rattle.book_test.proofs.Outcomes.{ready_passed}
use Rattle.book_test.proofs.Answers.{zeroed}
use Rattle.book_test.proofs.Promise.{promise}
use Rattle.book_writer.specs.Growths.{Growth, outside_at, outside}
use Rattle.book_writer.specs.Writing.{Answer, grow, lent, grown_left, outcome_of, grow_call, appended_value, Returned}
use Rattle.book_writer.specs.Coded.{Spare, Ready, Tried, Inside, fitted, deliver, append_in, grow_below, grow_in, Appends}
use Rattle.book_writer.proofs.Answers.{refused_with}

-- ---- the scratch that a test leaves
spare : (s : List ℕ) → scratch_least ≤ length s → Spare (scratch_after s)
spare s h =
    let l : length {A = ℕ} (replicate (length s) 0) ≡ length s = length-replicate (length s) 0 in
    rw (← zeroed s h) (record { long = omega arith; clean = sym (zeroed (replicate (length s) 0) (omega arith)) ∙ ap (λ (n : ℕ). replicate n 0) l })

-- ---- the call whole
by_steps : (scratch : ℕ) (b : Book) (g : Growth) (room : ℕ) → grow scratch b g room ≡ (ready scratch b >> grow_in b g room)
unfolding grow grow_in grow_below append_in deliver fitted
by_steps scratch b g room = refl

-- ---- refusal 7
stops : (b : Book) (g : Growth) (room : ℕ) → outside b g ≡ true → grow_in b g room ≡ refused (number NotInBook)
unfolding grow_in refuse ◌>>◌ number
stops b g room h = rw h

module _ (b : Book) (s : List ℕ) {s1 : List ℕ} where
  scratch_left : s1 ≡ (book_test_call b s).scratch → s1 ≡ scratch_after s
  unfolding book_test_call
  scratch_left e = e

  passed : Tried b s (Ok tt) s1 → ready (length s) b ≡ accepted tt
  unfolding book_test_call tested_value
  passed T = sym T.0

  pub ready_for : Tried b s (Ok tt) s1 → Ready b s1
  ready_for T =
      let r = ready_passed (length s) b (passed T) in
      record { tested = r.1; promise = promise b r.1; spare = rw (scratch_left T.1) (spare s r.0) }

  pub call_refused : (g : Growth) (t : List ℕ) {why : Refusal} {r : Answer} → Tried b s (Err why) s1 → r ≡ Err why → Returned (grow_call b (lent g s t)) r t s1
  unfolding book_test_call tested_value grow_call grown_left outcome_of appended_value map_outcome buffer_after ◌>>◌
  call_refused g t {why} T e =
      let stopped : ready (length s) b ≡ refused (number why) = sym T.0 in
      rw (e, by_steps (length s) b g (length t), stopped) (record { answer = refl; buffer' = refl; scratch'' = scratch_left T.1 })

  call_in : (g : Growth) (t : List ℕ) {r : Answer} {t1 s2 : List ℕ} → Tried b s (Ok tt) s1 → Appends (grow_in b g (length t)) r t t1 s1 s2 → Returned (grow_call b (lent g s t)) r t1 s2
  unfolding grow_call grown_left outcome_of ◌>>◌
  call_in g t T a = rw (by_steps (length s) b g (length t), passed T) (record { answer = a.copied.answer; buffer' = a.copied.buffer; scratch'' = a.scratch ∙ scratch_left T.1 })

  pub call_outside : (g : Growth) (t : List ℕ) {r : Answer} → Tried b s (Ok tt) s1 → outside b g ≡ true → r ≡ Err NotInBook → Returned (grow_call b (lent g s t)) r t s1
  call_outside g t T h e = call_in g t T (rw e (refused_with NotInBook t s1 (stops b g (length t) h)))

  pub call_good : (g : Growth) (t : List ℕ) {r : Answer} {t1 s2 : List ℕ} → Tried b s (Ok tt) s1 → outside b g ≡ false → Appends (grow_below b g (length t)) r t t1 s1 s2
      → Returned (grow_call b (lent g s t)) r t1 s2
  call_good g t {r} {t1} {s2} T h a = call_in g t T (unfold grow_in refuse ◌>>◌ in rw h a)

pub is_outside : {why : Refusal} (x : Bool) → Inside x (Err why) → (x ≡ true) × (why ≡ NotInBook)
is_outside true i = let e = i.is in (refl, cc)
is_outside false i = let e = i.is in absurd (cc)

pub is_inside : (x : Bool) → Inside x (Ok tt) → x ≡ false
is_inside true i = let e = i.is in absurd (cc)
is_inside false i = refl

module _ (b : Book) (p t : ℕ) where
  pub told_parent : {k : ℕ} → k ≡ size b contexts → k < p → Inside (outside_at b p t) (Err NotInBook)
  unfolding outside_at
  told_parent many h = record { is = rw (lt-ltb (size b contexts) p (omega arith)) }

  pub told_term : {m : ℕ} → m ≡ size b terms → m ≤ t → Inside (outside_at b p t) (Err NotInBook)
  unfolding outside_at
  told_term many h = record { is = rw (le-leb (size b terms) t (omega arith), or-true (ltb (size b contexts) p)) }

  pub told_inside : {k m : ℕ} → k ≡ size b contexts → m ≡ size b terms → p ≤ k → t < m → Inside (outside_at b p t) (Ok tt)
  unfolding outside_at
  told_inside many more h l = record { is = rw (le-ltb (size b contexts) p (omega arith), lt-leb (size b terms) t (omega arith)) }

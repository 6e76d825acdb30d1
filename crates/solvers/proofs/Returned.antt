-- What a call returns: a refusal, and behind the book test what its outcome gives.
use Prim.Native.Nat.{ℕ, ◌+◌, ◌≤◌, ◌<◌, min}
use native.Mathlib.Omega.{arith}
use mathlib.Core.Path.{◌≡◌, refl, sym, ap, ◌∙◌}
use mathlib.Core.List.{List, []}
use mathlib.Core.Bool.{Bool, true, false, or-false}
use mathlib.Core.Option.{none, some}
use lib.Dec.{ltb}
use lib.ListN.{length}
use borrow.Author.Tests.{lt-ltb, le-ltb}
use Rattle.basics.specs.Text.{Text}
use Rattle.basics.specs.Outcome.{Outcome, refused, accepted, refuse, ◌>>◌, map_outcome}
use Rattle.basics.specs.Buffer.{overlay, buffer_after, scratch_after}
use Rattle.basics.specs.Write.{MOST}
use Rattle.book.specs.Refusal.{number}
use Rattle.book.specs.declared.Refusal.{Refusal}
use Rattle.book.specs.declared.Refusal.TheVariants.{BufferTooShort}
use Rattle.book.specs.Book.{Book}
use Rattle.book_test.specs.BookTest.{ready, tested_value, book_test_call}
use Rattle.book_test.specs.Promise.{Promise}
use Rattle.book_test.proofs.Outcomes.{ready_passed}
use Rattle.book_test.proofs.Promise.{promise}
use Rattle.std.specs.Prelude.{Result, Ok, Err}
use Rattle.solvers.specs.declared.Answer.{Answer}
use Rattle.solvers.specs.declared.Answer.TheVariants as answer
use Rattle.solvers.specs.declared.Called.{Called}
use Rattle.solvers.specs.declared.Session.{Session}
use Rattle.solvers.specs.Session.{Written, Proved, Unproved, text_of}
use Rattle.solvers.specs.Calls.{Call, host_of, call, reason_of, fitting}
use Rattle.solvers.specs.Left.{answer_value, values_by, values, reason, session_after, left, called}
use Rattle.solvers.specs.Returned.{lent, Returned, Given}

pub given_refused : (o : Outcome Written) (why : Refusal) (s : Session) (t e : List ℕ) → o ≡ refused (number why)
    → Given o s (record { answer = Err why; session = s }) t t e e
unfolding answer_value map_outcome session_after buffer_after
given_refused o why s t e h = record { answer = rw h; session = rw h; text = rw h; reason = rw h }

pub returned : (b : Book) (s : Session) (c : Call) {r : Called} {t' e' sc' : List ℕ} → Given (call b s c) s r (host_of c).text t' (host_of c).reason e'
    → sc' ≡ scratch_after (host_of c).scratch → Returned (called b s c) r t' e' sc'
unfolding called left
returned b s c g z = record { answer = g.answer; session = g.session; text' = g.text; reason' = g.reason; scratch'' = z }

-- what the book test answered
module _ (b : Book) (scratch : List ℕ) {d : Result (Unit {0}) Refusal} (h : tested_value d ≡ (book_test_call b scratch).answer) where
  pub stops : {why : Refusal} → d ≡ Err why → ready (length scratch) b ≡ refused (number why)
  unfolding book_test_call tested_value
  stops e = sym h ∙ ap tested_value e

  pub passes : {u : Unit {0}} → d ≡ Ok u → ready (length scratch) b ≡ accepted tt
  unfolding book_test_call tested_value
  passes e = sym h ∙ ap tested_value e

  pub book_good : {u : Unit {0}} → d ≡ Ok u → Promise b
  book_good e = promise b (ready_passed (length scratch) b (passes e)).1

-- a call behind the book test, with what it gives in a book that passed
module _ (b : Book) (s : Session) (c : Call) (o : Outcome Written) (is : call b s c ≡ (ready (length (host_of c).scratch) b >> o)) {d : Result (Unit {0}) Refusal} {scratch : List ℕ}
    (h : (tested_value d ≡ (book_test_call b (host_of c).scratch).answer) × (scratch ≡ (book_test_call b (host_of c).scratch).scratch)) where
  pub call_stops : {why : Refusal} → d ≡ Err why → Returned (called b s c) (record { answer = Err why; session = s }) (host_of c).text (host_of c).reason scratch
  unfolding ◌>>◌ book_test_call
  call_stops {why} e = returned b s c (given_refused (call b s c) why s (host_of c).text (host_of c).reason (rw (is, stops b (host_of c).scratch h.0 e))) h.1

  pub call_passes : {u : Unit {0}} {r : Called} {t' e' : List ℕ} → d ≡ Ok u → Given o s r (host_of c).text t' (host_of c).reason e' → Returned (called b s c) r t' e' scratch
  unfolding ◌>>◌ book_test_call
  call_passes {r = r} {t' = t'} {e' = e'} e g =
      let same : o ≡ call b s c = sym (is ∙ rw (passes b (host_of c).scratch h.0 e)) in
      let g' : Given (call b s c) s r (host_of c).text t' (host_of c).reason e' = rw same at g in
      returned b s c g' h.1

given_accepted : (o : Outcome Written) (w : Written) (s : Session) {r : Called} {t t' e e' : List ℕ} → o ≡ accepted w → answer_value r.answer ≡ accepted (values w)
    → r.session ≡ w.session → t' ≡ overlay (text_of w) t → e' ≡ overlay (reason_of w.result) e → Given o s r t t' e e'
unfolding map_outcome session_after buffer_after reason
given_accepted o w s h a q x y = record { answer = rw h a; session = rw h q; text = rw h x; reason = rw h y }

-- What an accepted call sends is measured, and then written.
module _ (s : Session) (w : Written) (t e : List ℕ) {n : ℕ} (m : n ≡ min (0 + length (text_of w)) MOST) where
  pub text_long : length t < n → Given (fitting (lent [] t e) w) s (record { answer = Err BufferTooShort; session = s }) t t e e
  unfolding fitting refuse ◌>>◌ number
  text_long h = given_refused (fitting (lent [] t e) w) BufferTooShort s t e (rw (lt-ltb (length t) (length (text_of w)) (omega arith)))

  module _ (room : n ≤ length t) (short : length t < MOST) where
    whole : n ≡ length (text_of w)
    whole = omega arith

    pub reason_long : {k : ℕ} → k ≡ min (0 + length (reason_of w.result)) MOST → length e < k
        → Given (fitting (lent [] t e) w) s (record { answer = Err BufferTooShort; session = s }) t t e e
    unfolding fitting refuse ◌>>◌ number
    reason_long k h =
        given_refused (fitting (lent [] t e) w) BufferTooShort s t e
        (rw (le-ltb (length t) (length (text_of w)) (omega (arith, whole)), lt-ltb (length e) (length (reason_of w.result)) (omega arith)))

    fits : length (reason_of w.result) ≤ length e → fitting (lent [] t e) w ≡ accepted w
    unfolding fitting refuse ◌>>◌
    fits h = rw (le-ltb (length t) (length (text_of w)) (omega (arith, whole)), le-ltb (length e) (length (reason_of w.result)) h)

    module _ {t' : List ℕ} {q : Session} (x : t' ≡ overlay (text_of w) t) (z : q ≡ w.session) where
      pub written : w.result ≡ none → Given (fitting (lent [] t e) w) s (record { answer = Ok (answer.Written n); session = q }) t t' e e
      unfolding text_of answer_value values values_by reason_of overlay
      written g =
          given_accepted (fitting (lent [] t e) w) w s (fits (rw g (omega arith))) (rw (g, whole)) z x (rw g)

      pub proved : w.result ≡ some Proved → Given (fitting (lent [] t e) w) s (record { answer = Ok (answer.Proved n); session = q }) t t' e e
      unfolding text_of answer_value values values_by reason_of overlay
      proved g = given_accepted (fitting (lent [] t e) w) w s (fits (rw g (omega arith))) (rw (g, whole)) z x (rw g)

      pub unproved : {why : Text} {k : ℕ} {e' : List ℕ} → w.result ≡ some (Unproved why) → k ≡ length why → k ≤ length e → e' ≡ overlay why e
          → Given (fitting (lent [] t e) w) s (record { answer = Ok (answer.Unproved n k); session = q }) t t' e e'
      unfolding text_of answer_value values values_by reason_of
      unproved {why} g k l y = given_accepted (fitting (lent [] t e) w) w s (fits (rw g (omega arith))) (rw (g, whole, k)) z x (rw g y)

-- Without a reason the host may lend any buffer for it, and it isn't touched.
module _ (w : Written) (no : reason_of w.result ≡ []) where
  by_text : (t e : List ℕ) → fitting (lent [] t e) w ≡ (refuse 10 (ltb (length t) (length (text_of w))) >> accepted w)
  unfolding fitting
  by_text t e = rw (no, le-ltb (length e) 0 (omega arith), or-false (ltb (length t) (length (text_of w))))

  untouched : (long : Bool) (e : List ℕ) → buffer_after (refuse 10 long >> accepted w) reason e ≡ e
  unfolding refuse ◌>>◌ buffer_after reason overlay
  untouched true e = refl
  untouched false e = rw no

  pub given_any : (s : Session) (t e : List ℕ) {r : Called} {t' : List ℕ} → Given (fitting (lent [] t []) w) s r t t' [] [] → Given (fitting (lent [] t e) w) s r t t' e e
  given_any s t e {r} {t'} g =
      let same : fitting (lent [] t []) w ≡ fitting (lent [] t e) w = by_text t [] ∙ sym (by_text t e) in
      record {
        answer = rw same at g.answer;
        session = rw same at g.session;
        text = rw same at g.text;
        reason = rw (by_text t e) (sym (untouched (ltb (length t) (length (text_of w))) e));
      }

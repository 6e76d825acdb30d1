-- A printing call that tests its book first: refused as the test says, or answered by what stands behind the test.
use Rattle.std.specs.Prelude.{⊤, Result, Ok, Err, IsErrAnd}
use Rattle.std.proofs.lemmas.Result.{err_from_is_err_and}
use Prim.Native.Nat.{ℕ}
use mathlib.Core.Path.{◌≡◌, sym, ap, ◌∙◌}
use mathlib.Core.List.{List}
use lib.ListN.{length}
use Rattle.basics.specs.Text.{Text}
use Rattle.basics.specs.Outcome.{Outcome, refused, accepted, ◌>>◌}
use Rattle.book.specs.Refusal.{number}
use Rattle.book.specs.declared.Refusal.{Refusal}
use Rattle.book.specs.Book.{Book}
use Rattle.book_test.specs.BookTest.{ready, tested_value, book_test_call}
use Rattle.book_test.specs.Promise.{Promise}
use Rattle.book_test.proofs.Outcomes.{ready_passed}
use Rattle.book_test.proofs.Promise.{promise}
use Rattle.solver_expr.specs.Print.{printed_value, printed, Answered}
use Rattle.solver_expr.proofs.Answers.{answered_refused}

-- what a call with this outcome leaves of a text buffer x and a scratch s
abbrev pub Left : Outcome Text → (x s : List ℕ) → Result ℕ Refusal → (x1 s1 : List ℕ) → Type 0
Left o x s r x1 s1 = (printed_value r ≡ (printed o x s).answer) × (x1 ≡ (printed o x s).text) × (s1 ≡ (printed o x s).scratch)

left : (b : Book) (s : List ℕ) {o : Outcome Text} {r : Result ℕ Refusal} {x x1 s1 : List ℕ} → Answered o r x x1 → s1 ≡ (book_test_call b s).scratch → Left o x s r x1 s1
unfolding printed book_test_call
left b s a e = (a.answer, a.text, e)

module _ (b : Book) (s : List ℕ) {d : Result ⊤ Refusal} {s1 : List ℕ} (tested : (tested_value d ≡ (book_test_call b s).answer) × (s1 ≡ (book_test_call b s).scratch)) where
  passed : d ≡ Ok tt → ready (length s) b ≡ accepted tt
  unfolding book_test_call tested_value
  passed e = sym tested.0 ∙ ap tested_value e

  pub book_good : d ≡ Ok tt → Promise b
  book_good e = promise b (ready_passed (length s) b (passed e)).1

  -- r is what the `?` behind the test answers
  pub call_refused : {why : Refusal} (r : Result ℕ Refusal) (rest : Outcome Text) (x : List ℕ) → d ≡ Err why → IsErrAnd r (λ e. e ≡ why) → Left (ready (length s) b >> rest) x s r x s1
  unfolding book_test_call tested_value ◌>>◌
  call_refused {why} r rest x e h =
      let stopped : ready (length s) b ≡ refused (number why) = sym tested.0 ∙ ap tested_value e in
      let p = err_from_is_err_and r h in
      rw (p.1, p.2) (left b s {o = ready (length s) b >> rest} (answered_refused why x (rw stopped)) tested.1)

  pub call_good : {rest : Outcome Text} {r : Result ℕ Refusal} {x x1 : List ℕ} → d ≡ Ok tt → Answered rest r x x1 → Left (ready (length s) b >> rest) x s r x1 s1
  unfolding ◌>>◌
  call_good e a = left b s (rw (passed e) a) tested.1

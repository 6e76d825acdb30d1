-- A question meets 9 in an audit exactly if an ask from a fresh session meets it.
use Prim.Native.Nat.{◌≤◌}
use native.Mathlib.Omega.{arith}
use mathlib.Core.Path.{◌≡◌, refl, sym, ◌∙◌, subst}
use mathlib.Core.Bool.{Bool, true, false, not, ◌||◌}
use lib.Dec.{leb, ltb}
use lib.ListN.{length}
use borrow.Author.Tests.{leb-true, ltb-true, le-ltb, lt-leb, not-true, not-false}
use Rattle.basics.specs.Buffer.{scratch_least}
use Rattle.basics.specs.Outcome.{refused, accepted, refuse, ◌>>◌}
use Rattle.basics.proofs.Bool.{and_both}
use Rattle.basics.proofs.Refusals.{NotNumber, guarded, passing, past}
use Rattle.book.specs.Book.{Book, terms, contexts, size}
use Rattle.book.specs.Program.{path, path_up}
use Rattle.book.specs.Decode.{term, program}
use Rattle.book_test.specs.BookTest.{book_test, ready}
use Rattle.rsolver.specs.LevelState.{fresh}
use Rattle.solvers.specs.declared.Owed.TheVariants.{Nothing}
use Rattle.solvers.specs.declared.Session.{Session}
use Rattle.solvers.specs.Session.{fresh_session}
use Rattle.solvers.specs.Calls.{owes, is_session, Host, fitting, ask_for, call}
use Rattle.solvers.specs.Rule.{standing, goal_state, present, session_at}
use Rattle.solvers.specs.ByBook.{call_by_book, ask_by_book}
use Rattle.solvers.proofs.ByBook.{by_book}
use Rattle.solvers.proofs.Root.{root_present}
use Rattle.solvers.proofs.Straight.{pass, pass_all, ready_ok, valid_start, owes_start}
use Rattle.question_lists.specs.Questions.{Question, is_inside, is_complete}
use Rattle.own_scripts.specs.Agreement.{Asks9}

module _ (b : Book) (ok : book_test b ≡ accepted tt) (q : Question) where
  goal_missing : Bool
  goal_missing = (goal_state (program b) q.node (term b q.goal)).missing

  outside : Bool
  outside = ltb (size b contexts) q.node || leb (size b terms) q.goal

  within : is_inside b q ≡ true → outside ≡ false
  unfolding is_inside outside
  within h =
      let r = and_both (leb q.node (size b contexts)) (ltb q.goal (size b terms)) h in
      rw (le-ltb (size b contexts) q.node (leb-true q.node (size b contexts) r.0), lt-leb (size b terms) q.goal (ltb-true q.goal (size b terms) r.1))

  -- where a fresh session stands
  at_root : session_at b root_present ≡ fresh_session
  unfolding session_at fresh_session standing fresh path path_up root_present present
  at_root = refl

  nine : outside ≡ false → goal_missing ≡ true → (h : Host) → scratch_least ≤ length h.scratch → call b fresh_session (ask_for h q.node q.goal) ≡ refused 9
  unfolding call_by_book ask_by_book outside goal_missing
  nine i m h k =
      let s = session_at b root_present in
      rw (← at_root)
      (by_book b s (ask_for h q.node q.goal)
      ∙ pass_all (ready (length h.scratch) b) _ (ready_ok b ok {room = 0} {h = h} (record { scratch = k; text = omega arith }))
      ∙ pass 7 outside _ i
      ∙ pass 20 (not (is_session (program b) s)) _ (rw (valid_start b ok))
      ∙ pass 21 (not (owes s.owed Nothing)) _ (owes_start b ok)
      ∙ unfold refuse ◌>>◌ in rw m)

  not_nine : goal_missing ≡ false → (s : Session) (h : Host) → NotNumber 9 (ask_by_book b s h q.node q.goal)
  unfolding ask_by_book ready fitting goal_missing
  not_nine m s h =
      passing (NotNumber 9) (λ k l. l) (ready (length h.scratch) b) _
      (guarded (NotNumber 9) (λ k l. l) 1 (ltb (length h.scratch) scratch_least) (book_test b) (omega arith) (λ e. rw ok tt)) λ e₁.
      guarded (NotNumber 9) (λ k l. l) 7 _ _ (omega arith) λ e₇.
      guarded (NotNumber 9) (λ k l. l) 20 (not (is_session (program b) s)) _ (omega arith) λ e₂₀.
      guarded (NotNumber 9) (λ k l. l) 21 (not (owes s.owed Nothing)) _ (omega arith) λ e₂₁.
      past (NotNumber 9) 9 _ m (guarded (NotNumber 9) (λ k l. l) 10 _ _ (omega arith) (λ e₁₀. tt))

  pub asks_9 : is_inside b q ≡ true → Asks9 b q
  unfolding is_complete goal_missing call_by_book
  asks_9 i =
      record {
        fails = λ m. nine (within i) (not-false _ m);
        never = λ m s h e. subst (NotNumber 9) (sym (by_book b s (ask_for h q.node q.goal)) ∙ e) (not_nine (not-true _ m) s h) refl;
      }

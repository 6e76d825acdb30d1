-- A session that is valid on a book is valid on one that grew from it, and every call within the old book has the same outcome on both.
use Prim.Native.Nat.{ℕ, ◌≤◌, ◌<◌}
use native.Mathlib.Omega.{arith}
use mathlib.Core.Path.{◌≡◌, sym, ap, ◌∙◌}
use mathlib.Core.List.{◌++◌}
use mathlib.Core.Option.{none}
use mathlib.Core.Bool.{Bool, true, not, ◌&&◌, ◌||◌}
use lib.Dec.{leb, ltb}
use lib.ListN.{length}
use borrow.Author.Tests.{leb-true, ltb-true, le-leb, lt-leb, le-ltb, lt-ltb}
use Rattle.basics.specs.Buffer.{scratch_least}
use Rattle.basics.specs.Text.{same}
use Rattle.basics.specs.Outcome.{Outcome, refuse, ◌>>◌}
use Rattle.basics.proofs.Bool.{and_both}
use Rattle.book.specs.Book.{Book, terms, contexts, size}
use Rattle.book.specs.Program.{path}
use Rattle.book.specs.Decode.{program}
use Rattle.book.proofs.Terms.{contexts_length, literals_length}
use Rattle.book_test.specs.BookTest.{ready}
use Rattle.book_test.specs.Promise.{Promise}
use Rattle.book_test.proofs.Promise.{promise}
use Rattle.rsolver.specs.LevelState.{LevelState}
use Rattle.solvers.specs.declared.Owed.{Owed}
use Rattle.solvers.specs.declared.Owed.TheVariants.{Nothing, Reply, Model}
use Rattle.solvers.specs.declared.Session.{Session}
use Rattle.solvers.specs.Session.{session, is_unsat, give_reply, give_model}
use Rattle.solvers.specs.Calls.{owes, goal_fits, is_session, Host, fitting, reply_call, model_call, Call, move_to, ask_for, reply_with, model_with, call}
use Rattle.solvers.specs.Rule.{standing, present, session_at}
use Rattle.solvers.specs.ByBook.{move_by_book, ask_by_book, call_by_book}
use Rattle.book_growth.specs.Grows.{Grows}
use Rattle.book_growth.proofs.Order.{terms_grew, contexts_grew}
use Rattle.stack_rule.specs.Growth.{CallIn, SessionKept}
use Rattle.solvers.proofs.Good.{good}
use Rattle.solvers.proofs.Contexts.{set_fresh}
use Rattle.solvers.proofs.ByBook.{by_book}
use Rattle.stack_rule.proofs.GrownBook.{standing_kept, moves_kept, goal_kept, questions_kept}

-- the test of a session, by what stands at its node
unfoldable stands_at : Book → Session → LevelState → Bool
stands_at b s at = leb s.node (size b contexts) && not at.missing && same s.levels at.levels && goal_fits s.owed s.goal (size b terms)

session-test : (b : Book) → Promise b → (s : Session) → is_session (program b) s ≡ stands_at b s (standing (program b) (path (program b) s.node))
unfolding is_session stands_at
session-test b P s = rw (set_fresh (program b) (good b P) s.node, contexts_length b, literals_length b)

goal_fits_more : (o : Owed) (goal m k : ℕ) → m ≤ k → goal_fits o goal m ≡ true → goal_fits o goal k ≡ true
unfolding goal_fits
goal_fits_more Nothing goal m k h e = e
goal_fits_more Reply goal m k h e = lt-ltb goal k (omega (arith, ltb-true goal m e))
goal_fits_more Model goal m k h e = lt-ltb goal k (omega (arith, ltb-true goal m e))

module _ {b c : Book} (g : Grows b c) (s : Session) (v : is_session (program b) s ≡ true) where
  here : LevelState
  here = standing (program b) (path (program b) s.node)

  session_holds : (s.node ≤ size b contexts) × (stands_at c s here ≡ true)
  unfolding stands_at here
  session_holds =
      let v' = sym (session-test b (promise b g.before) s) ∙ v in
      let A = leb s.node (size b contexts) in
      let r3 = and_both (A && not here.missing && same s.levels here.levels) (goal_fits s.owed s.goal (size b terms)) v' in
      let r2 = and_both (A && not here.missing) (same s.levels here.levels) r3.0 in
      let r1 = and_both A (not here.missing) r2.0 in
      let i = leb-true s.node (size b contexts) r1.0 in (
        i,
        rw (le-leb s.node (size c contexts) (omega (arith, contexts_grew g)), r1.1, r2.1) (goal_fits_more s.owed s.goal (size b terms) (size c terms) (terms_grew g) r3.1),
      )

  pub session_grown : is_session (program c) s ≡ true
  unfolding here
  session_grown =
      let h = session_holds in
      session-test c (promise c g.after) s ∙ ap (stands_at c s) (standing_kept g s.node h.0) ∙ h.1

  -- ---- the refusals before a call's own
  ready_same : (scratch : ℕ) → ready scratch c ≡ ready scratch b
  unfolding ready
  ready_same scratch = ap (λ (o : Outcome (Unit {0})). refuse 1 (ltb scratch scratch_least) >> o) (g.after ∙ sym g.before)

  valid_same : is_session (program c) s ≡ is_session (program b) s
  valid_same = session_grown ∙ sym v

  node_same : (n : ℕ) → n ≤ size b contexts → ltb (size c contexts) n ≡ ltb (size b contexts) n
  node_same n i = le-ltb (size c contexts) n (omega (arith, contexts_grew g)) ∙ sym (le-ltb (size b contexts) n i)

  goal_same : (t : ℕ) → t < size b terms → leb (size c terms) t ≡ leb (size b terms) t
  goal_same t l = lt-leb (size c terms) t (omega (arith, terms_grew g)) ∙ sym (lt-leb (size b terms) t l)

  move_same : (h : Host) (n : ℕ) → n ≤ size b contexts → move_by_book c s h n ≡ move_by_book b s h n
  unfolding move_by_book session_at present
  move_same h n i =
      let R = ready_same (length h.scratch) in
      let N = node_same n i in
      let S = standing_kept g n i in
      let C = moves_kept g n i s.node session_holds.0 in
      λ k.
      R k >> (refuse 7 (N k) >> (refuse 20 (not (valid_same k)) >> (refuse 21 (not (owes s.owed Nothing))
      >> (refuse 9 (S k).missing >> fitting h (record { commands = C k; session = session n 0 Nothing (S k).levels; result = none })))))

  ask_same : (h : Host) (n t : ℕ) → n ≤ size b contexts → t < size b terms → ask_by_book c s h n t ≡ ask_by_book b s h n t
  unfolding ask_by_book session_at present
  ask_same h n t i l =
      let R = ready_same (length h.scratch) in
      let N = node_same n i in
      let T = goal_same t l in
      let S = standing_kept g n i in
      let Q = goal_kept g n i t l in
      let C = moves_kept g n i s.node session_holds.0 in
      let D = questions_kept g n i t l in
      λ k.
      R k >> (refuse 7 (N k || T k) >> (refuse 20 (not (valid_same k)) >> (refuse 21 (not (owes s.owed Nothing))
      >> (refuse 9 (Q k).missing >> fitting h (record { commands = C k ++ D k; session = session n t Reply (S k).levels; result = none })))))

  by_book_same : (k : Call) → CallIn b k → call_by_book c s k ≡ call_by_book b s k
  unfolding call_by_book call reply_call model_call
  by_book_same (move_to h n) i = move_same h n i
  by_book_same (ask_for h n t) i = ask_same h n t i.0 i.1
  by_book_same (reply_with h ok r) i =
      let R = ready_same (length h.scratch) in
      λ k. R k >> (refuse 20 (not (valid_same k)) >> (refuse 22 (not (owes s.owed Reply)) >> fitting h (give_reply s ok r)))
  by_book_same (model_with h r m) i =
      let R = ready_same (length h.scratch) in
      λ k. R k >> (refuse 20 (not (valid_same k)) >> (refuse 23 (not (owes s.owed Model)) >> (refuse 8 (is_unsat r) >> fitting h (give_model s r m))))

  pub call_grown : (k : Call) → CallIn b k → call c s k ≡ call b s k
  call_grown k i = by_book c s k ∙ by_book_same k i ∙ sym (by_book b s k)

pub session_kept : {b c : Book} → Grows b c → (s : Session) → is_session (program b) s ≡ true → SessionKept b c s
session_kept g s v = record { valid = session_grown g s v; outcomes = call_grown g s v }

-- A fresh session, given scratch and buffer enough, is sent to a node or asked a goal that it can reach: the call is accepted.
use Prim.Native.Nat.{ℕ, ◌≤◌, ◌<◌}
use native.Mathlib.Omega.{arith}
use mathlib.Core.Path.{◌≡◌, refl, sym, ap, ◌∙◌}
use mathlib.Core.List.{[]}
use mathlib.Core.Option.{none}
use mathlib.Core.Bool.{Bool, true, false, not, ◌||◌}
use lib.Dec.{leb, ltb}
use lib.ListN.{length}
use borrow.Author.Tests.{le-ltb, lt-leb}
use Rattle.basics.specs.Outcome.{Outcome, accepted, refuse, ◌>>◌}
use Rattle.book.specs.Book.{Book, terms, contexts, size}
use Rattle.book.specs.Decode.{term, program}
use Rattle.book_test.specs.BookTest.{book_test, ready}
use Rattle.book_test.proofs.Answers.{ready_long}
use Rattle.smt_engines.specs.Command.{script}
use Rattle.rsolver.specs.LevelState.{LevelState}
use Rattle.solvers.specs.declared.Owed.TheVariants.{Nothing}
use Rattle.solvers.specs.Session.{Written, text_of, moved, asked, move, ask}
use Rattle.solvers.specs.Calls.{owes, is_session, Host, Enough, reason_of, fitting, move_call, ask_call, Call, move_to, ask_for, call}
use Rattle.solvers.specs.Rule.{goal_state, present, session_at, said}
use Rattle.solvers.proofs.Questions.{Fits, denial_missing, is-session, arrives, asked_at}
use Rattle.solvers.proofs.Root.{root_present, G, T, fits_start}

pub pass : {A : Type 0} (k : ℕ) (x : Bool) (rest : Outcome A) → x ≡ false → refuse k x >> rest ≡ rest
unfolding refuse ◌>>◌
pass k x rest e = rw e

pub pass_all : {A : Type 0} (o : Outcome (Unit {0})) (rest : Outcome A) → o ≡ accepted tt → o >> rest ≡ rest
unfolding ◌>>◌
pass_all o rest e = rw e

-- the call that a fresh session is given, by what it says
abbrev pub Takes : Book → Call → Written → Type 0
Takes b c y = call b (session_at b root_present) c ≡ accepted y

unfoldable pub room_for : Book → Call → ℕ
room_for b c = length (script (said b root_present c))

module _ (b : Book) (ok : book_test b ≡ accepted tt) where
  pub ready_ok : {room : ℕ} {h : Host} → Enough room h → ready (length h.scratch) b ≡ accepted tt
  ready_ok {h = h} k = sym (ready_long b (length h.scratch) k.scratch) ∙ ok

  pub valid_start : is_session (program b) (session_at b root_present) ≡ true
  valid_start = is-session b (G b ok) (T b ok) root_present (fits_start b ok)

  pub owes_start : not (owes (session_at b root_present).owed Nothing) ≡ false
  unfolding owes session_at root_present present
  owes_start = refl

  no_room : (h : Host) (y : Written) → y.result ≡ none → length (text_of y) ≤ length h.text
      → (ltb (length h.text) (length (text_of y)) || ltb (length h.reason) (length (reason_of y.result))) ≡ false
  unfolding reason_of
  no_room h y e j = rw (le-ltb (length h.text) (length (text_of y)) j, e) (le-ltb (length h.reason) 0 (omega arith))

  fits_room : (h : Host) (y : Written) → y.result ≡ none → length (text_of y) ≤ length h.text → fitting h y ≡ accepted y
  unfolding fitting
  fits_room h y e j = pass 10 _ (accepted y) (no_room h y e j)

  pub move_yes : (h : Host) (n : ℕ) → Fits b (present n 0 Nothing) → Enough (room_for b (move_to h n)) h
      → Takes b (move_to h n) (move (program b) (session_at b root_present) n)
  unfolding call move_call present
  move_yes h n f k =
      let p = program b in
      let s = session_at b root_present in
      let y = move p s n in
      let A = arrives b (G b ok) (T b ok) root_present (fits_start b ok) n in
      let room : length (text_of y) ≤ length h.text =
      unfold room_for said move text_of in rw (ap (λ (x : LevelState). x.sent) A) k.text in
      pass_all (ready (length h.scratch) b) _ (ready_ok k)
      ∙ pass 7 (ltb (size b contexts) n) _ (le-ltb (size b contexts) n f.inside)
      ∙ pass 20 (not (is_session p s)) _ (rw valid_start)
      ∙ pass 21 (not (owes s.owed Nothing)) _ owes_start
      ∙ pass 9 (moved p s n).missing _ (ap (λ (x : LevelState). x.missing) A ∙ f.clear)
      ∙ fits_room h y (unfold move in refl) room

  pub ask_yes : (h : Host) (n t : ℕ) → n ≤ size b contexts → t < size b terms → (goal_state (program b) n (term b t)).missing ≡ false
      → Enough (room_for b (ask_for h n t)) h → Takes b (ask_for h n t) (ask (program b) (session_at b root_present) n t (term b t))
  unfolding call ask_call
  ask_yes h n t i l g k =
      let p = program b in
      let s = session_at b root_present in
      let y = ask p s n t (term b t) in
      let A = asked_at b (G b ok) (T b ok) root_present (fits_start b ok) n t l in
      let room : length (text_of y) ≤ length h.text =
      unfold room_for said ask text_of in rw (ap (λ (x : LevelState). x.sent) A) k.text in
      let seven : (ltb (size b contexts) n || leb (size b terms) t) ≡ false = rw (le-ltb (size b contexts) n i, lt-leb (size b terms) t l) in
      pass_all (ready (length h.scratch) b) _ (ready_ok k)
      ∙ pass 7 (ltb (size b contexts) n || leb (size b terms) t) _ seven
      ∙ pass 20 (not (is_session p s)) _ (rw valid_start)
      ∙ pass 21 (not (owes s.owed Nothing)) _ owes_start
      ∙ pass 9 (asked p s n (term b t)).missing _
      (ap (λ (x : LevelState). x.missing) A ∙ denial_missing p (term b t) (goal_state p n (term b t)) ∙ g)
      ∙ fits_room h y (unfold ask in refl) room

  pub nobody : Host
  nobody = record { scratch = []; text = []; reason = [] }

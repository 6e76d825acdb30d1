-- The reply to an accepted ask is accepted, in any session that the ask was accepted in.
use Prim.Native.Nat.{ℕ}
use native.Mathlib.Omega.{arith}
use mathlib.Core.Path.{◌≡◌, refl}
use mathlib.Core.Bool.{Bool, true, false, ◌||◌}
use lib.Dec.{leb, ltb}
use lib.ListN.{length, replicate, length-replicate}
use borrow.Author.Tests.{le-ltb}
use Rattle.basics.specs.Text.{ascii, same}
use Rattle.basics.specs.Outcome.{Outcome, refused, accepted, refuse, ◌>>◌}
use Rattle.book.specs.Book.{Book, terms, contexts, size}
use Rattle.book.specs.Decode.{program}
use Rattle.book_test.specs.BookTest.{ready}
use Rattle.book_test.proofs.Outcomes.{ready_passed}
use Rattle.book_test.proofs.Promise.{promise}
use Rattle.smt_engines.specs.Command.{script, command_to_string}
use Rattle.smt_engines.specs.SmtEngines.{CMD_POP}
use Rattle.solvers.specs.declared.Owed.{Owed}
use Rattle.solvers.specs.declared.Owed.TheVariants.{Nothing, Reply}
use Rattle.solvers.specs.declared.Session.{Session}
use Rattle.solvers.specs.Session.{Written, Proved, text_of, closed, is_unsat, replied, give_reply}
use Rattle.solvers.specs.Calls.{owes, is_session, reason_of, fitting, ask_for, call, ask_call, reply_call}
use Rattle.solvers.specs.Rule.{Present, present, next, session_at}
use Rattle.solvers.proofs.Root.{G, T}
use Rattle.solvers.proofs.Questions.{Fits, Kept, owes_nothing, is-session}
use Rattle.solvers.proofs.Steps.{step_kept}
use Rattle.solvers.proofs.ByBook.{known}
use Rattle.script_text.specs.Script.{text_size, desk, reply, Replied}

-- a refusal behind others, whichever comes first
stays : (b : Book) (o : Outcome (Unit {0})) (rest : Outcome Written) → Replied b rest → Replied b (o >> rest)
unfolding Replied ◌>>◌
stays b (refused k) rest x = tt
stays b (accepted u) rest x = x

two-pops : (s : Session) → length (text_of (closed s Proved)) ≡ 16
unfolding text_of closed script command_to_string CMD_POP
two-pops s = refl

fits_desk : (s : Session) → fitting desk (closed s Proved) ≡ accepted (closed s Proved)
unfolding fitting desk closed reason_of refuse ◌>>◌
fits_desk s =
    rw (le-ltb (length {A = ℕ} (replicate text_size 0)) (length (text_of (closed s Proved))) (omega (arith, two-pops s, length-replicate {A = ℕ} text_size 0)))

proves : (s : Session) → give_reply s true (ascii "unsat") ≡ closed s Proved
unfolding give_reply is_unsat same replied
proves s = refl

owes_it : (o : Owed) → o ≡ Reply → owes o Reply ≡ true
unfolding owes
owes_it o e = rw e

module _ (b : Book) (e : ready (length desk.scratch) b ≡ accepted tt) where
  -- a session of the book that owes a reply
  waits : (s : Session) → is_session (program b) s ≡ true → s.owed ≡ Reply → reply b s ≡ accepted (closed s Proved)
  unfolding reply call reply_call refuse ◌>>◌
  waits s i o = rw (e, i, owes_it s.owed o, proves s) (fits_desk s)

  at_question : (n t : ℕ) → Fits b (present n t Reply) → reply b (session_at b (present n t Reply)) ≡ accepted (closed (session_at b (present n t Reply)) Proved)
  unfolding session_at present
  at_question n t f = let ok = (ready_passed _ b e).1 in waits (session_at b (present n t Reply)) (is-session b (G b ok) (T b ok) (present n t Reply) f) refl

  kept_replied : (w : Present) (n t : ℕ) (o : Outcome Written) → Kept b w (ask_for desk n t) o → Replied b o
  unfolding Replied next present
  kept_replied w n t (refused k) x = tt
  kept_replied w n t (accepted y) x = rw x.session (at_question n t x.fits)

  in_session : (s : Session) (n t : ℕ) (v f : Bool) → is_session (program b) s ≡ v → owes s.owed Nothing ≡ f → Replied b (call b s (ask_for desk n t))
  unfolding Replied call ask_call refuse ◌>>◌
  in_session s n t false f i j = rw (e, i) (stays b (refuse 7 (ltb (size b contexts) n || leb (size b terms) t)) (refused 20) tt)
  in_session s n t true false i j = rw (e, i, j) (stays b (refuse 7 (ltb (size b contexts) n || leb (size b terms) t)) (refused 21) tt)
  in_session s n t true true i j =
      let ok = (ready_passed _ b e).1 in
      let K = known b (promise b ok) s i (owes_nothing s.owed (rw j)) in
      let w = present s.node 0 Nothing in
      let x = step_kept b (G b ok) (T b ok) w K.fits (ask_for desk n t) in
      kept_replied w n t (call b s (ask_for desk n t)) (rw (← K.is) at x)

pub always_replied : (b : Book) (s : Session) (n t : ℕ) → Replied b (call b s (ask_for desk n t))
always_replied b s n t = go (ready (length desk.scratch) b) refl
  where
    go : (o : Outcome (Unit {0})) → ready (length desk.scratch) b ≡ o → Replied b (call b s (ask_for desk n t))
    go (refused k) e = unfold Replied call ask_call ◌>>◌ in rw e tt
    go (accepted tt) e = in_session b e s n t (is_session (program b) s) (owes s.owed Nothing) refl refl

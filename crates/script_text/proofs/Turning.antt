-- A turn, from what the calls in it return.
use Prim.Native.Nat.{ℕ}
use native.Mathlib.Omega.{arith}
use mathlib.Core.Path.{◌≡◌, refl, ap, sym, ◌∙◌}
use mathlib.Core.Bool.{Bool, true, false, true≢false}
use mathlib.Core.List.{List, [], ◌++◌, append-nil}
use lib.ListN.{length, take, length-replicate}
use Rattle.basics.specs.Text.{Text, ascii}
use Rattle.basics.specs.Outcome.{Outcome, refused, accepted, map_outcome}
use Rattle.basics.specs.Buffer.{scratch_least}
use Rattle.book.specs.Book.{Book}
use Rattle.std.specs.Prelude.{Result, Ok, Err, is_err}
use Rattle.book.specs.declared.Refusal.{Refusal}
use Rattle.solvers.specs.declared.Answer.{Answer}
use Rattle.solvers.specs.declared.Answer.TheVariants as answer
use Rattle.solvers.specs.declared.Called.{Called}
use Rattle.solvers.specs.declared.Session.{Session}
use Rattle.solvers.specs.Session.{Written, text_of}
use Rattle.solvers.specs.Calls.{Host, fitting, Call, move_to, ask_for, reply_with, host_of, call, move_call, ask_call, reply_call}
use Rattle.solvers.specs.Left.{Values, answer_value, values, session_after, left, called}
use Rattle.solvers.specs.Returned.{lent, Returned}
use Rattle.solvers.proofs.Taken.{call_fits}
use Rattle.script_text.specs.declared.answers.Turn.{Turn}
use Rattle.script_text.specs.Script.{text_size, stopped, stopping, moving, asking, desk, told, Printed, reply, answered, turn}
use Rattle.script_text.specs.Turned.{Desk, Shows, Tells, is_refused, Turned, Closes}
use Rattle.script_text.proofs.Telling.{told_shows}

-- ---- a call hangs only on the lengths of what it is lent
abbrev pub Alike : Host → Host → Type 0
Alike h g = (length h.scratch ≡ length g.scratch) × (length h.text ≡ length g.text) × (length h.reason ≡ length g.reason)

module _ (b : Book) (s : Session) (h g : Host) (e : Alike h g) where
  same_fitting : (w : Written) → fitting h w ≡ fitting g w
  unfolding fitting
  same_fitting w = rw (e.1, e.2)

  same_move : (node : ℕ) → call b s (move_to h node) ≡ call b s (move_to g node)
  unfolding call move_call
  same_move node = rw (e.0, same_fitting _)

  same_ask : (node term : ℕ) → call b s (ask_for h node term) ≡ call b s (ask_for g node term)
  unfolding call ask_call
  same_ask node term = rw (e.0, same_fitting _)

  same_reply : (ok : Bool) (t : Text) → call b s (reply_with h ok t) ≡ call b s (reply_with g ok t)
  unfolding call reply_call
  same_reply ok t = rw (e.0, same_fitting _)

on_desk : (sc tx : List ℕ) → length sc ≡ scratch_least → length tx ≡ text_size → Alike (lent sc tx []) desk
unfolding desk
on_desk sc tx x y = (x ∙ sym (length-replicate {A = ℕ} scratch_least 0), y ∙ sym (length-replicate {A = ℕ} text_size 0), refl)

-- ---- one call
-- what a call shows and leaves
pub record Did (o : Outcome Written) (s : Session) (v : Outcome Values) (left : Session) (n : ℕ) (buffer : List ℕ) : Type 0 where
  pub answer : v ≡ map_outcome values o
  pub session : left ≡ session_after o s
  pub shows : Shows (told o) n buffer

did : (b : Book) (s : Session) (c : Call) {o : Outcome Written} {r : Called} {t1 e1 sc1 t2 : List ℕ} {n : ℕ} → call b s c ≡ o → Returned (called b s c) r t1 e1 sc1
    → Tells (answer_value r.answer) n t1 t2 → Did o s (answer_value r.answer) r.session n t2
unfolding called left
did b s c {t1 = t1} {t2 = t2} {n = n} e r x =
    let y : Tells (map_outcome values (call b s c)) n t1 t2 = rw r.answer at x in
    rw (← e) (record { answer = r.answer; session = r.session; shows = told_shows (host_of c) (call b s c) (call_fits b s c) r.text' y })

shows_at : {t : Text} {n m : ℕ} {buffer : List ℕ} → m ≡ n → Shows t n buffer → Shows t m buffer
shows_at e x = rw e x

-- a turn of one text
module _ {r : Turn} {p : Printed} {t : List ℕ} (closing : List ℕ) where
  alone : {s : Session} → r.closed ≡ 0 → Shows p.text r.written t → s ≡ p.session → r.more ≡ p.more → Turned p r s t closing
  alone e x es em = record {
    printed = ap {B = List ℕ} (λ (k : ℕ). take r.written t ++ take k closing) e ∙ append-nil _ ∙ x.shown;
    text_fits = x.fits;
    closing_fits = omega (arith, e);
    session = es;
    more = em;
  }

pub stop_turned : (b : Book) (s : Session) {n : ℕ} {t : List ℕ} (closing : List ℕ) → Shows stopped n t → Turned (turn b s stopping) (record { written = n; closed = 0; more = false }) s t closing
unfolding turn
stop_turned b s closing x = alone closing refl x refl refl

module _ (b : Book) (s : Session) {sc tx : List ℕ} (d : Desk sc tx) {a : Result Answer Refusal} {l : Session} {t1 e1 sc1 t2 : List ℕ} where
  pub move_turned : {r : Turn} {n : ℕ} (node : ℕ) (closing : List ℕ) → Returned (called b s (move_to (lent sc tx []) node)) (record { answer = a; session = l }) t1 e1 sc1
      → Tells (answer_value a) n t1 t2 → r ≡ record { written = n; closed = 0; more = true } → Turned (turn b s (moving node)) r l t2 closing
  unfolding turn
  move_turned node closing q x w =
      let y = did b s (move_to (lent sc tx []) node) (same_move b s (lent sc tx []) desk (on_desk sc tx d.scratch_length d.text-length) node) q x in
      rw w (alone closing refl y.shows y.session refl)

  pub reply_closes : (n : ℕ) {m : ℕ} → Returned (called b s (reply_with (lent sc tx []) true (ascii "unsat"))) (record { answer = a; session = l }) t1 e1 sc1
      → Tells (answer_value a) m t1 t2 → Closes b s n (record { written = n; closed = m; more = true }) l t2
  unfolding reply
  reply_closes n q x =
      let e = same_reply b s (lent sc tx []) desk (on_desk sc tx d.scratch_length d.text-length) true (ascii "unsat") in
      let y = did b s (reply_with (lent sc tx []) true (ascii "unsat")) e q x in
      record { written = refl; closes = y.shows; session = y.session; more = refl }

-- ---- an ask, and the reply to it
refused_turned : (b : Book) (s : Session) (o : Outcome Written) {v : Outcome Values} {l : Session} {n : ℕ} {t : List ℕ} {r : Turn} (closing : List ℕ) → Did o s v l n t → is_refused v ≡ true
    → r ≡ record { written = n; closed = 0; more = true } → Turned (answered b s o) r l t closing
unfolding answered told session_after is_refused map_outcome
refused_turned b s (refused k) closing y e x = rw x (alone closing refl y.shows y.session refl)
refused_turned b s (accepted w) closing y e x = absurd (true≢false (sym e ∙ ap is_refused y.answer))

accepted_turned : (b : Book) (s : Session) (o : Outcome Written) {v : Outcome Values} {l l2 : Session} {n : ℕ} {t c : List ℕ} {r : Turn} → Did o s v l n t → is_refused v ≡ false
    → Closes b l n r l2 c → Turned (answered b s o) r l2 t c
unfolding answered told session_after is_refused map_outcome
accepted_turned b s (refused k) y e z = absurd (true≢false (ap is_refused (sym y.answer) ∙ e))
accepted_turned b s (accepted w) {l2 = l2} {n = n} {c = c} {r = r} y e z =
    let x : Closes b w.session n r l2 c = rw y.session at z in
    let f : Shows (text_of w) r.written _ = shows_at x.written y.shows in
    record {
      printed = rw (f.shown, x.closes.shown);
      text_fits = f.fits;
      closing_fits = x.closes.fits;
      session = x.session;
      more = x.more;
    }

told_apart : (a : Result Answer Refusal) → is_refused (answer_value a) ≡ is_err a
unfolding is_refused answer_value
told_apart (Err why) = refl
told_apart (Ok (answer.Written n)) = refl
told_apart (Ok (answer.Proved n)) = refl
told_apart (Ok (answer.Unproved n m)) = refl

module _ (b : Book) (s : Session) (node term : ℕ) {sc tx : List ℕ} (d : Desk sc tx) {a : Result Answer Refusal} {l : Session} {t1 e1 sc1 t2 : List ℕ} {n : ℕ}
    (q : Returned (called b s (ask_for (lent sc tx []) node term)) (record { answer = a; session = l }) t1 e1 sc1) (x : Tells (answer_value a) n t1 t2) where
  asked : Did (call b s (ask_for desk node term)) s (answer_value a) l n t2
  asked = did b s (ask_for (lent sc tx []) node term) (same_ask b s (lent sc tx []) desk (on_desk sc tx d.scratch_length d.text-length) node term) q x

  pub ask_refused : (closing : List ℕ) {r : Turn} {why : Refusal} → a ≡ Err why → r ≡ record { written = n; closed = 0; more = true } → Turned (turn b s (asking node term)) r l t2 closing
  unfolding turn
  ask_refused closing e y = refused_turned b s (call b s (ask_for desk node term)) closing asked (told_apart a ∙ ap is_err e) y

  pub ask_replied : {l2 : Session} {c2 : List ℕ} {r : Turn} {v : Answer} → a ≡ Ok v → Closes b l n r l2 c2 → Turned (turn b s (asking node term)) r l2 t2 c2
  unfolding turn
  ask_replied e z = accepted_turned b s (call b s (ask_for desk node term)) asked (told_apart a ∙ ap is_err e) z

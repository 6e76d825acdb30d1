-- Running the calls one by one.
use Prim.Native.Nat.{ℕ, zero, suc, ◌+◌, ◌-◌, ◌<◌, ◌≤◌}
use native.Mathlib.Omega.{arith}
use mathlib.Core.Path.{◌≡◌, refl, ap, sym, ◌∙◌}
use mathlib.Core.Bool.{Bool, true, false}
use mathlib.Core.List.{List, [], ◌∷◌, ◌++◌}
use lib.ListN.{length, take, drop, length-drop, drop_of_length-le}
use lib.Seq.{take_all}
use native.Mathlib.Nat.{zero-add, suc-add}
use Rattle.basics.specs.Text.{Text}
use Rattle.book.specs.Book.{Book, word}
use Rattle.solvers.specs.declared.Session.{Session}
use Rattle.solvers.specs.Session.{fresh_session}
use Rattle.script_text.specs.declared.answers.Turn.{Turn}
use Rattle.script_text.specs.Script.{number_size, call_size, shape, turn, Ran, onward, run_for, run, is_cut, book_of, calls_of, last_session}
use Rattle.script_text.specs.Turned.{Turned, next_place}

onward_same : (more : Bool) (t : Text) (s : Session) {f g : Session → Ran} → ((u : Session) → f u ≡ g u) → onward more t s f ≡ onward more t s g
unfolding onward
onward_same false t s h = refl
onward_same true t s h = λ i. record { text = t ++ (h s i).text; session = (h s i).session }

-- any count that is enough gives the same
enough : (b : Book) (m n : ℕ) (cs : List ℕ) (s : Session) → length cs ≤ m → length cs ≤ n → run_for m b cs s ≡ run_for n b cs s
unfolding run_for
enough b zero zero cs s h k = refl
enough b zero (suc n) [] s h k = refl
enough b zero (suc n) (c ∷ cs) s h k = absurd (omega arith)
enough b (suc m) zero [] s h k = refl
enough b (suc m) zero (c ∷ cs) s h k = absurd (omega arith)
enough b (suc m) (suc n) [] s h k = refl
enough b (suc m) (suc n) (c ∷ cs) s h k =
    let p = turn b s (shape (c ∷ cs)) in
    onward_same p.more p.text p.session λ u. enough b m n (drop call_size (c ∷ cs)) u (omega (arith, length-drop call_size (c ∷ cs))) (omega (arith, length-drop call_size (c ∷ cs)))

-- the last session of what is left
unfoldable last_of : (more : Bool) → Book → List ℕ → Session → Session
last_of false b cs s = s
last_of true b cs s = (run b cs s).session

onward_last : (more : Bool) (t : Text) (s : Session) (b : Book) (cs : List ℕ) → (onward more t s (run b cs)).session ≡ last_of more b cs s
unfolding onward last_of
onward_last false t s b cs = refl
onward_last true t s b cs = refl

run_step : (b : Book) (cs : List ℕ) (s : Session) → 0 < length cs → (run b cs s).session ≡ last_of (turn b s (shape cs)).more b (drop call_size cs) (turn b s (shape cs)).session
unfolding run run_for
run_step b [] s h = absurd (omega arith)
run_step b (c ∷ cs) s h =
    let p = turn b s (shape (c ∷ cs)) in
    let e = onward_same p.more p.text p.session {f = run_for (length cs) b (drop call_size (c ∷ cs))} {g = run b (drop call_size (c ∷ cs))} λ u.
    enough b (length cs) (length (drop call_size (c ∷ cs))) (drop call_size (c ∷ cs)) u (omega (arith, length-drop call_size (c ∷ cs))) (omega arith) in
    (λ i. (e i).session) ∙ onward_last p.more p.text p.session b (drop call_size (c ∷ cs))

drop-drop : (n k : ℕ) (l : List ℕ) → drop k (drop n l) ≡ drop (n + k) l
drop-drop zero k l = ap (λ (j : ℕ). drop j l) (sym (zero-add k))
drop-drop (suc n) k [] = drop_of_length-le {A = ℕ} [] {i = k} (omega arith) ∙ sym (drop_of_length-le {A = ℕ} [] {i = suc n + k} (omega arith))
drop-drop (suc n) k (x ∷ l) = drop-drop n k l ∙ ap (λ (j : ℕ). drop j (x ∷ l)) (sym (suc-add n k))

none_left : (b : Book) (s : Session) → (run b [] s).session ≡ s
unfolding run run_for
none_left b s = refl

module _ (b : Book) (calls : List ℕ) where
  -- nothing is left to run at the end
  pub ended : (at : ℕ) (s : Session) → length calls ≤ at → (run b (drop at calls) s).session ≡ s
  ended at s h = ap (λ (cs : List ℕ). (run b cs s).session) (drop_of_length-le calls {i = at} h) ∙ none_left b s

  left_at : (more : Bool) (at : ℕ) (s : Session) → last_of more b (drop (at + call_size) calls) s ≡ (run b (drop (next_place more at (length calls)) calls) s).session
  unfolding last_of next_place
  left_at true at s = refl
  left_at false at s = sym (ended (length calls) s (omega arith))

  -- one turn: what is left to run ends in the same session
  pub goes_on : (at : ℕ) (s : Session) {r : Turn} {s' : Session} {t c : List ℕ} {k : ℕ} → at < length calls → Turned (turn b s (shape (drop at calls))) r s' t c
      → k ≡ next_place r.more at (length calls) → (run b (drop k calls) s').session ≡ (run b (drop at calls) s).session
  goes_on at s {r} {s'} h x e =
      ap (λ (n : ℕ). (run b (drop n calls) s').session) e ∙ sym (left_at r.more at s')
      ∙ (λ i. last_of (x.more i) b (sym (drop-drop at call_size calls) i) (x.session i)) ∙ sym (run_step b (drop at calls) s (omega (arith, length-drop at calls)))

  moves_on : (more : Bool) (at : ℕ) → at < length calls → at < next_place more at (length calls)
  unfolding next_place
  moves_on true at h = omega arith
  moves_on false at h = h

  pub further : (more : Bool) {at k : ℕ} → at < length calls → k ≡ next_place more at (length calls) → at < k
  further more {at} h e = omega (arith, moves_on more at h, e)

-- the front of the input
module _ (input : List ℕ) where
  pub last_cut : is_cut input ≡ true → fresh_session ≡ last_session input
  unfolding last_session
  last_cut e = rw e

  pub last_run : is_cut input ≡ false → {at : ℕ} → at ≡ number_size + word input 0 → (run (take (at - number_size) (drop number_size input)) (take (length input - at) (drop at input)) fresh_session).session ≡ last_session input
  unfolding last_session book_of calls_of
  last_run e {at} h =
      let n : at - number_size ≡ word input 0 = omega (arith, h) in
      let all : take (length input - at) (drop at input) ≡ drop at input = take_all (length input - at) (drop at input) (omega (arith, length-drop at input)) in
      rw (e, n, all, h)

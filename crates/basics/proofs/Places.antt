-- Texts that are written at a place of a buffer: what the callers of a writer cite.
use Prim.Native.Nat.{ℕ, zero, suc, ◌+◌, ◌-◌, ◌<◌, ◌≤◌, min}
use native.Mathlib.Omega.{arith}
use mathlib.Core.Path.{◌≡◌, refl, sym, ap, ◌∙◌}
use mathlib.Core.List.{List, [], ◌∷◌, ◌++◌, append-nil}
use lib.ListN.{length, take, drop, length-append, length-drop, drop_of_length-le}
use lib.Seq.{take_all}
use Rattle.basics.specs.Text.{Text}
use Rattle.basics.specs.Buffer.{overlay}
use Rattle.basics.specs.Write.{MOST, Wrote, overlay_at, WroteAt}
use Rattle.basics.proofs.Laws.{length_overlay, overlay_whole, take_overlay, joined}

length_overlay_at : (n : ℕ) (t : Text) (o : List ℕ) → length (overlay_at n t o) ≡ length o
unfolding overlay_at
length_overlay_at zero t o = length_overlay t o
length_overlay_at (suc n) t [] = refl
length_overlay_at (suc n) t (y ∷ o) = ap suc (length_overlay_at n t o)

over_nil : (n : ℕ) (o : List ℕ) → overlay_at n [] o ≡ o
unfolding overlay_at overlay
over_nil zero o = refl
over_nil (suc n) [] = refl
over_nil (suc n) (y ∷ o) = ap {B = List ℕ} (λ (l : List ℕ). y ∷ l) (over_nil n o)

over_empty : (n : ℕ) (t : Text) → overlay_at n t [] ≡ []
unfolding overlay_at overlay
over_empty zero [] = refl
over_empty zero (x ∷ t) = refl
over_empty (suc n) t = refl

-- a text and then another, written where the first ends, is the two in a row
over_append : (n m : ℕ) (t u : Text) (o : List ℕ) → min m (length o) ≡ min (n + length t) (length o) → overlay_at m u (overlay_at n t o) ≡ overlay_at n (t ++ u) o
unfolding overlay_at overlay
over_append n m t u [] e = rw (over_empty n t, over_empty m u, over_empty n (t ++ u))
over_append zero zero [] u (y ∷ o) e = refl
over_append zero (suc m) [] u (y ∷ o) e = absurd (omega arith)
over_append zero zero (x ∷ t) u (y ∷ o) e = absurd (omega arith)
over_append zero (suc m) (x ∷ t) u (y ∷ o) e = ap {B = List ℕ} (λ (l : List ℕ). x ∷ l) (over_append zero m t u o (omega arith))
over_append (suc n) zero t u (y ∷ o) e = absurd (omega arith)
over_append (suc n) (suc m) t u (y ∷ o) e = ap {B = List ℕ} (λ (l : List ℕ). y ∷ l) (over_append n m t u o (omega arith))

-- the part from k on
over_part : (n k : ℕ) (t : Text) (o : List ℕ) → k ≡ min n (length o) → take k o ++ overlay t (drop k o) ≡ overlay_at n t o
unfolding overlay_at overlay
over_part zero zero t o e = refl
over_part zero (suc k) t o e = absurd (omega arith)
over_part (suc n) zero [] [] e = refl
over_part (suc n) zero (x ∷ t) [] e = refl
over_part (suc n) (suc k) t [] e = absurd (omega arith)
over_part (suc n) zero t (y ∷ o) e = absurd (omega arith)
over_part (suc n) (suc k) t (y ∷ o) e = ap {B = List ℕ} (λ (l : List ℕ). y ∷ l) (over_part n k t o (omega arith))

-- one writer after another
pub at_then : {t u : Text} {o o1 o2 : List ℕ} {n r1 r : ℕ} → length o < MOST + 1 → WroteAt t n o o1 r1 → WroteAt u r1 o1 o2 r → WroteAt (t ++ u) n o o2 r
at_then {t} {u} {o} {o1} {o2} {n} {r1} {r} short w1 w2 =
    record {
      counted = omega (arith, w1.counted, w2.counted, length-append t u);
      shown = w2.shown ∙ ap (overlay_at r1 u) w1.shown ∙ over_append n r1 t u o (omega (arith, w1.counted));
    }

-- an empty text
pub at_none : (n : ℕ) (o : List ℕ) → n < MOST + 1 → WroteAt [] n o o n
at_none n o h = record { counted = omega arith; shown = sym (over_nil n o) }

-- a text told otherwise
pub at_as : {t u : Text} {n : ℕ} {o o1 : List ℕ} {r : ℕ} → t ≡ u → WroteAt t n o o1 r → WroteAt u n o o1 r
at_as e w = rw e at w

pub at_length : {t : Text} {n : ℕ} {o o1 : List ℕ} {r : ℕ} → WroteAt t n o o1 r → length o1 ≡ length o
at_length {t} {n} {o} w = ap length w.shown ∙ length_overlay_at n t o

-- a text that fills the buffer
pub at_whole : {t : Text} {o o1 : List ℕ} {r : ℕ} → WroteAt t 0 o o1 r → length t ≡ length o → o1 ≡ t
unfolding overlay_at
at_whole {t} {o} w h = w.shown ∙ overlay_whole t o h

-- a text at the front of the buffer, taken by the place behind it
pub at_taken : {t : Text} {o o1 : List ℕ} {r : ℕ} → WroteAt t 0 o o1 r → length t ≤ length o → r ≡ length t → take r o1 ≡ t
unfolding overlay_at
at_taken {t} {o} w h e = rw (e, w.shown) (take_overlay t o h)

-- a writer of a part: it gets the buffer from `clip` on, and the next place is `sum`
pub at_part : {t : Text} {o p : List ℕ} {n k m r : ℕ} → k ≡ min n (length o) → Wrote t (take (length o - k) (drop k o)) p m → r ≡ min (n + m) MOST
    → WroteAt t n o (joined k o p) r
at_part {t} {o} {p} {n} {k} {m} {r} ek w er =
    let rest : take (length o - k) (drop k o) ≡ drop k o = take_all (length o - k) (drop k o) (omega (arith, length-drop k o)) in
    let none : drop (length o - k) (drop k o) ≡ [] = drop_of_length-le (drop k o) {i = length o - k} (omega (arith, length-drop k o)) in
    record {
      counted = omega (arith, w.counted);
      shown = rw (none, append-nil p, w.shown, rest) (over_part n k t o ek);
    }

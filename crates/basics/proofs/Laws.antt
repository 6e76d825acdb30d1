-- Texts that are written over the front of a buffer: what the callers of a writer cite.
use Prim.Native.Nat.{ℕ, zero, suc, ◌+◌, ◌-◌, ◌<◌, ◌≤◌, min}
use native.Mathlib.Nat.{le_of_eq}
use native.Mathlib.Omega.{arith}
use mathlib.Core.Path.{◌≡◌, refl, ap, ◌∙◌}
use mathlib.Core.List.{List, [], ◌∷◌, ◌++◌, append-nil}
use lib.ListN.{length, take, drop, length-append, length-drop, drop_of_length-le}
use lib.Seq.{take_all}
use Rattle.basics.specs.Text.{Text}
use Rattle.basics.specs.Buffer.{overlay}
use Rattle.basics.specs.Write.{MOST, Wrote}

pub length_overlay : (t : Text) (o : List ℕ) → length (overlay t o) ≡ length o
unfolding overlay
length_overlay [] o = refl
length_overlay (x ∷ t) [] = refl
length_overlay (x ∷ t) (y ∷ o) = ap suc (length_overlay t o)

-- a text that is no longer than the buffer stands there whole, and nothing behind it is touched
pub overlay_fits : (t : Text) (o : List ℕ) → length t ≤ length o → overlay t o ≡ t ++ drop (length t) o
unfolding overlay
overlay_fits [] o h = refl
overlay_fits (x ∷ t) [] h = absurd (omega arith)
overlay_fits (x ∷ t) (y ∷ o) h = rw (overlay_fits t o (omega arith))

-- one that fills it stands there alone
pub overlay_whole : (t o : List ℕ) → length t ≡ length o → overlay t o ≡ t
overlay_whole t o h = overlay_fits t o (le_of_eq h) ∙ ap (λ (r : List ℕ). t ++ r) (drop_of_length-le o {i = length t} (omega arith)) ∙ append-nil t

-- and is taken from there whole
pub take_overlay : (t : Text) (buffer : List ℕ) → length t ≤ length buffer → take (length t) (overlay t buffer) ≡ t
unfolding overlay
take_overlay [] buffer h = refl
take_overlay (x ∷ t) [] h = absurd (omega arith)
take_overlay (x ∷ t) (y ∷ buffer) h = ap {B = Text} (λ (r : Text). x ∷ r) (take_overlay t buffer (omega arith))

-- an empty buffer stays as it is
overlay_empty : (t : Text) → overlay t [] ≡ []
unfolding overlay
overlay_empty [] = refl
overlay_empty (x ∷ t) = refl

-- two texts, the second written where the first ends
pub overlay_append : (t u : Text) (o : List ℕ) (k : ℕ) → k ≡ min (length t) (length o)
    → take k (overlay t o) ++ overlay u (drop k (overlay t o)) ≡ overlay (t ++ u) o
unfolding overlay
overlay_append [] u o zero e = refl
overlay_append [] u o (suc k) e = absurd (omega arith)
overlay_append (x ∷ t) u [] zero e = overlay_empty u
overlay_append (x ∷ t) u [] (suc k) e = absurd (omega arith)
overlay_append (x ∷ t) u (y ∷ o) zero e = absurd (omega arith)
overlay_append (x ∷ t) u (y ∷ o) (suc k) e = rw (overlay_append t u o k (omega arith))

-- the buffer o, of which the part from k on was lent and came back as p
abbrev pub joined : ℕ → List ℕ → List ℕ → List ℕ
joined k o p = take k o ++ (p ++ drop (length o - k) (drop k o))

-- one writer after another: the second gets what is free, from `clip` on, and the answer is `sum`
pub wrote_then : {t u : Text} {o o1 p : List ℕ} {r1 k r2 r : ℕ} → length o < MOST + 1
    → Wrote t o o1 r1 → k ≡ min r1 (length o1) → Wrote u (take (length o1 - k) (drop k o1)) p r2 → r ≡ min (r1 + r2) MOST
    → Wrote (t ++ u) o (joined k o1 p) r
wrote_then {t} {u} {o} {o1} {p} {r1} {k} {r2} {r} short w1 ek w2 er =
    let same : length o1 ≡ length o = ap length w1.shown ∙ length_overlay t o in
    let rest : take (length o1 - k) (drop k o1) ≡ drop k o1 = take_all (length o1 - k) (drop k o1) (omega (arith, length-drop k o1)) in
    let none : drop (length o1 - k) (drop k o1) ≡ [] = drop_of_length-le (drop k o1) {i = length o1 - k} (omega (arith, length-drop k o1)) in
    let here : k ≡ min (length t) (length o) = omega (arith, w1.counted) in
    record {
      counted = omega (arith, w1.counted, w2.counted, length-append t u);
      shown =
          rw (none, append-nil p, w2.shown, rest, w1.shown) (overlay_append t u o k here);
    }

-- an empty text
pub wrote_none : (o : List ℕ) → Wrote [] o o 0
unfolding overlay
wrote_none o = record { counted = refl; shown = refl }

-- a writer on an empty slice only measures
pub wrote_nowhere : {t : Text} {o1 : List ℕ} {r : ℕ} → Wrote t [] o1 r → o1 ≡ []
wrote_nowhere {t} w = w.shown ∙ overlay_empty t

pub wrote_length : {t : Text} {o o1 : List ℕ} {r : ℕ} → Wrote t o o1 r → length o1 ≡ length o
wrote_length {t} {o} w = ap length w.shown ∙ length_overlay t o

-- a text told otherwise
pub wrote_as : {t u : Text} {o o1 : List ℕ} {r : ℕ} → t ≡ u → Wrote t o o1 r → Wrote u o o1 r
wrote_as e w = rw e at w

-- A text that is written over the front of a buffer.
use Prim.Native.Nat.{ℕ, zero, suc, ◌+◌, ◌<◌, ◌≤◌, min}
use native.Mathlib.Omega.{arith}
use native.Mathlib.Numerals.{add-one}
use mathlib.Core.Path.{◌≡◌, refl, ap, ◌∙◌}
use mathlib.Core.List.{List, [], ◌∷◌, ◌++◌}
use lib.ListN.{length, take, drop, get_or, set, replicate, length-replicate}
use Rattle.std.proofs.lemmas.List.{take-replicate}
use Rattle.basics.specs.Text.{Text}
use Rattle.basics.specs.Buffer.{overlay}
use Rattle.basics.specs.Write.{MOST, Wrote, WroteRepeat}

pub put_some : (b : ℕ) (o : List ℕ) → 0 < length o → Wrote (b ∷ []) o (set o 0 b) 1
unfolding overlay
put_some b [] h = absurd (omega arith)
put_some b (x ∷ o) h = record { counted = refl; shown = refl }

pub put_none : (b : ℕ) (o : List ℕ) → length o ≤ 0 → Wrote (b ∷ []) o o 1
unfolding overlay
put_none b [] h = record { counted = refl; shown = refl }
put_none b (x ∷ o) h = absurd (omega arith)

-- o1 has the first i bytes of t
abbrev pub Begun : Text → ℕ → (o o1 : List ℕ) → Type 0
Begun t i o o1 = o1 ≡ overlay (take i t) o

pub begun : (t : Text) (o : List ℕ) → Begun t 0 o o
unfolding overlay
begun t o = refl

next : (t : Text) (o : List ℕ) (i : ℕ) → i < length t → i < length o → set (overlay (take i t) o) i (get_or t i 0) ≡ overlay (take (suc i) t) o
unfolding overlay
next [] o i h g = absurd (omega arith)
next (x ∷ t) [] i h g = absurd (omega arith)
next (x ∷ t) (y ∷ o) zero h g = refl
next (x ∷ t) (y ∷ o) (suc i) h g = rw (next t o i (omega arith) (omega arith))

pub begun_more : (t : Text) (o : List ℕ) {o1 : List ℕ} (i : ℕ) → Begun t i o o1 → i < length t → i < length o → Begun t (i + 1) o (set o1 i (get_or t i 0))
begun_more t o i e h g = rw (add-one, e) (next t o i h g)

-- what is behind the buffer's end is not written
clipped : (t : Text) (o : List ℕ) (i : ℕ) → min (length t) (length o) ≤ i → overlay (take i t) o ≡ overlay t o
unfolding overlay
clipped [] o zero h = refl
clipped [] o (suc i) h = refl
clipped (x ∷ t) [] zero h = refl
clipped (x ∷ t) [] (suc i) h = refl
clipped (x ∷ t) (y ∷ o) zero h = absurd (omega arith)
clipped (x ∷ t) (y ∷ o) (suc i) h = rw (clipped t o i (omega arith))

pub begun_all : (t : Text) (o : List ℕ) {o1 : List ℕ} (i r : ℕ) → Begun t i o o1 → min (length t) (length o) ≤ i → r ≡ min (length t) MOST → Wrote t o o1 r
begun_all t o i r e h c = record { counted = c; shown = e ∙ clipped t o i h }

-- the front is the text's, what is behind stays
over_front : (t : Text) (o : List ℕ) (k : ℕ) → k ≡ min (length t) (length o) → take k t ++ drop k o ≡ overlay t o
unfolding overlay
over_front [] o zero e = refl
over_front [] o (suc k) e = absurd (omega arith)
over_front (x ∷ t) [] zero e = refl
over_front (x ∷ t) [] (suc k) e = absurd (omega arith)
over_front (x ∷ t) (y ∷ o) zero e = absurd (omega arith)
over_front (x ∷ t) (y ∷ o) (suc k) e = ap {B = List ℕ} (λ (l : List ℕ). x ∷ l) (over_front t o k (omega arith))

-- k bytes of the text are copied: as many as there are, and as there is room for
pub copied : (t : Text) (o : List ℕ) {p : List ℕ} (k : ℕ) {r : ℕ} → k ≡ min (length t) (length o) → p ≡ take k t → r ≡ min (length t) MOST → Wrote t o (p ++ drop k o) r
copied t o k e h c = record { counted = c; shown = rw h (over_front t o k e) }

-- the front is filled with one byte, for every count that n stands for
pub filled : (b n : ℕ) (o : List ℕ) {p : List ℕ} (k : ℕ) {m : ℕ} → k ≡ min n (length o) → m ≡ k → p ≡ replicate m b → length o < MOST + 1 → WroteRepeat b n o (p ++ drop k o) n
filled b n o {p} k e s h short = record { text = whole }
  where
    whole : (count : ℕ) → n ≡ min count MOST → Wrote (replicate count b) o (p ++ drop k o) n
    whole count q =
        let long : length (replicate {A = ℕ} count b) ≡ count = length-replicate count b in
        let front : take k (replicate {A = ℕ} count b) ≡ replicate k b = take-replicate k count b (omega (arith, e, q)) in
        copied (replicate count b) o k (omega (arith, long, e, q)) (rw (front, ← s) h) (rw long q)

-- Levels that are left: one after the other by the code, and several at once.
use Rattle.std.specs.Prelude.{if◌then◌else◌}
use Prim.Native.Nat.{ℕ, zero, suc, ◌+◌, ◌≤◌, ◌<◌}
use native.Mathlib.Omega.{arith}
use native.Mathlib.Numerals.{add-one}
use native.Mathlib.Decide.{dec_le}
use mathlib.Core.Path.{◌≡◌, refl, ap, ◌∙◌}
use mathlib.Core.Bool.{Bool, true, false}
use mathlib.Core.List.{List, [], ◌∷◌, ◌++◌, append-nil}
use lib.Dec.{leb}
use lib.ListN.{length, get_or, set, take, drop, drop_of_length-le}
use lib.Seq.{take_all}
use borrow.Author.Tests.{le-leb, lt-leb}
use Rattle.basics.proofs.All.{end, more}
use Rattle.rsolver.specs.LevelState.{forget}
use Rattle.rsolver.proofs.Levels.{Within}

-- the first i levels are seen to
unfoldable pub cleared : (n i : ℕ) → List ℕ → List ℕ
cleared n i l = forget n (take i l) ++ drop i l

pub cleared_start : (n : ℕ) (l : List ℕ) → l ≡ cleared n 0 l
unfolding cleared forget
cleared_start n l = refl

cleared_at : (n i : ℕ) (l : List ℕ) → i < length l → get_or (cleared n i l) i 0 ≡ get_or l i 0
unfolding cleared forget
cleared_at n i [] h = absurd (omega arith)
cleared_at n zero (x ∷ l) h = refl
cleared_at n (suc i) (x ∷ l) h = cleared_at n i l (omega arith)

cleared_next : (n i : ℕ) (l : List ℕ) → i < length l → set (cleared n i l) i (if leb n (get_or l i 0) then 0 else get_or l i 0) ≡ cleared n (suc i) l
unfolding cleared forget
cleared_next n i [] h = absurd (omega arith)
cleared_next n zero (x ∷ l) h = refl
cleared_next n (suc i) (x ∷ l) h = ap {B = List ℕ} (λ r. (if leb n x then 0 else x) ∷ r) (cleared_next n i l (omega arith))

-- a turn of the loop, whose call gives r
pub cleared_more : (n i : ℕ) (l : List ℕ) {m : List ℕ} {r : ℕ} → m ≡ cleared n i l → i < length l
    → r ≡ (if leb n (get_or m i 0) then 0 else get_or m i 0) → set m i r ≡ cleared n (i + 1) l
cleared_more n i l e h k = rw (k, e, cleared_at n i l h, add-one i) (cleared_next n i l h)

pub cleared_all : (n i : ℕ) (l : List ℕ) {m : List ℕ} → m ≡ cleared n i l → length l ≤ i → m ≡ forget n l
unfolding cleared
cleared_all n i l e h = e ∙ rw (take_all i l h, drop_of_length-le l {i = i} h) (append-nil (forget n l))

-- nothing is declared at or above a level above all
pub forget_within : {k : ℕ} {l : List ℕ} → Within k l → forget (suc k) l ≡ l
unfolding forget
forget_within end = refl
forget_within {k} (more {a = a} h w) = rw (lt-leb (suc k) a (omega arith), forget_within w)

zeros : (x : Bool) → ◌≡◌ {A = ℕ} (if x then 0 else 0) 0
zeros true = refl
zeros false = refl

-- leaving the higher level first changes nothing
pub forget_forget : (n m : ℕ) → n ≤ m → (l : List ℕ) → forget n (forget m l) ≡ forget n l
unfolding forget
forget_forget n m h [] = refl
forget_forget n m h (a ∷ l) = rw (forget_forget n m h l) (ap {B = List ℕ} (λ x. x ∷ forget n l) (one (dec_le m a)))
  where
    one : Dec (m ≤ a) → (if leb n (if leb m a then 0 else a) then 0 else (if leb m a then 0 else a)) ≡ (if leb n a then 0 else a)
    one (yes g) = rw (le-leb m a g, le-leb n a (omega arith)) (zeros (leb n 0))
    one (no g) = rw (lt-leb m a (omega arith))

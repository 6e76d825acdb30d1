-- Tests and lists over the numbers below a bound.
use Prim.Native.Nat.{ℕ, zero, suc, ◌+◌, ◌-◌, ◌<◌, ◌≤◌}
use native.Mathlib.Nat.{zero-add}
use native.Mathlib.Omega.{arith}
use native.Mathlib.Decide.{dec_lt}
use mathlib.Core.Path.{◌≡◌, refl, ap, ◌∙◌, subst}
use mathlib.Core.Bool.{Bool, true}
use mathlib.Core.List.{◌++◌, map}
use lib.ListN.{length, get_or}
use Rattle.basics.specs.Lists.{all_below, up_to}
use Rattle.basics.proofs.Bool.{and_both, both_and}

pub below_each : (n : ℕ) (test : ℕ → Bool) → all_below n test ≡ true → (i : ℕ) → i < n → test i ≡ true
unfolding all_below
below_each zero test h i l = absurd (omega arith)
below_each (suc n) test h i l = at (λ k. below_each n test (and_both (all_below n test) (test n) h).0 i k) (dec_lt i n)
  where
    at : (i < n → test i ≡ true) → Dec (i < n) → test i ≡ true
    at f (yes k) = f k
    at f (no k) = let e : n ≡ i = omega arith in subst (λ (j : ℕ). test j ≡ true) e (and_both (all_below n test) (test n) h).1

pub below_all : (n : ℕ) (test : ℕ → Bool) → ((i : ℕ) → i < n → test i ≡ true) → all_below n test ≡ true
unfolding all_below
below_all zero test h = refl
below_all (suc n) test h = both_and (below_all n test (λ i l. h i (omega arith))) (h n (omega arith))

-- the element of a list of `count` values, or the default behind it
pub at_up : {A : Type 0} (Q : A → Type 0) (f : ℕ → A) (d : A) (start count i : ℕ) → (i < count → Q (f (start + i))) → Q d → Q (get_or (map f (up_to start count)) i d)
unfolding up_to
at_up Q f d start zero i h k = k
at_up Q f d start (suc count) zero h k = let e : start + 0 ≡ start = omega arith in subst (λ (j : ℕ). Q (f j)) e (h (omega arith))
at_up Q f d start (suc count) (suc i) h k =
    at_up Q f d (suc start) count i (λ l. let e : start + suc i ≡ suc start + i = omega arith in subst (λ (j : ℕ). Q (f j)) e (h (omega arith))) k

pub length_up : {A : Type 0} (f : ℕ → A) (start count : ℕ) → length (map f (up_to start count)) ≡ count
unfolding up_to
length_up f start zero = refl
length_up f start (suc count) = ap suc (length_up f (suc start) count)

from_at : {A : Type 0} (f : ℕ → A) (d : A) (start count i : ℕ) → i < count → get_or (map f (up_to start count)) i d ≡ f (start + i)
unfolding up_to
from_at f d start zero i h = absurd (omega arith)
from_at f d start (suc count) zero h = let e : start ≡ start + 0 = omega arith in ap f e
from_at f d start (suc count) (suc i) h =
    from_at f d (suc start) count i (omega arith) ∙ let e : suc start + i ≡ start + suc i = omega arith in ap f e

pub up_at : {A : Type 0} (f : ℕ → A) (d : A) (count i : ℕ) → i < count → get_or (map f (up_to 0 count)) i d ≡ f i
up_at f d count i h = from_at f d 0 count i h ∙ ap f (zero-add i)

-- functions that agree on as many numbers
pub up_same : {A : Type 0} (f g : ℕ → A) (start count : ℕ) → ((i : ℕ) → i < start + count → f i ≡ g i) → map f (up_to start count) ≡ map g (up_to start count)
unfolding up_to
up_same f g start zero h = refl
up_same f g start (suc count) h = rw (h start (omega arith), up_same f g (suc start) count (λ i l. h i (omega arith)))

-- f on the numbers from `start`, where it agrees with g, and then on the rest
up_more : {A : Type 0} (f g : ℕ → A) (start count more : ℕ) → ((i : ℕ) → i < start + count → f i ≡ g i)
    → map f (up_to start (count + more)) ≡ map g (up_to start count) ++ map f (up_to (start + count) more)
unfolding up_to
up_more f g start zero more h =
    let e : 0 + more ≡ more = zero-add more in
    let s : start + 0 ≡ start = omega arith in
    rw (e, s)
up_more f g start (suc count) more h =
    let e : suc count + more ≡ suc (count + more) = omega arith in
    let s : start + suc count ≡ suc start + count = omega arith in
    rw (e, s, h start (omega arith), up_more f g (suc start) count more (λ i l. h i (omega arith)))

-- the same for as many as a larger number says
pub up_goes_on : {A : Type 0} (f g : ℕ → A) (n m : ℕ) → n ≤ m → ((i : ℕ) → i < n → f i ≡ g i) → map f (up_to 0 m) ≡ map g (up_to 0 n) ++ map f (up_to n (m - n))
up_goes_on f g n m l h =
    let e : m ≡ n + (m - n) = omega arith in
    let z : 0 + n ≡ n = zero-add n in
    let all : map f (up_to 0 (n + (m - n))) ≡ map g (up_to 0 n) ++ map f (up_to (0 + n) (m - n)) = up_more f g 0 n (m - n) (λ i k. h i (omega arith)) in
    ap (λ (k : ℕ). map f (up_to 0 k)) e ∙ (rw z at all)

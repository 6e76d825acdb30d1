-- A loop that tests one number after the other, `if !test(i) { return false; }`, where r is what the call gives.
use Prim.Native.Nat.{ℕ, zero, suc, ◌+◌, ◌<◌}
use native.Mathlib.Nat.{le_of_suc-le-suc, not-suc-le-zero, eq-or-lt_of_le}
use native.Mathlib.Numerals.{add-one}
use mathlib.Core.Path.{◌≡◌, refl, sym, ◌∙◌}
use mathlib.Core.Logic.{⊎_elim}
use mathlib.Core.Bool.{Bool, true, false, not, ◌&&◌}
use mathlib.Core.List.{List, [], ◌∷◌}
use borrow.Author.Tests.{not-true, not-false}
use lib.ListN.{length, get_or}
use Rattle.basics.specs.Lists.{all_below, all}
use Rattle.basics.proofs.Bool.{and_assoc, and-false, and-true}

below_fails : (test : ℕ → Bool) (n i : ℕ) → i < n → test i ≡ false → all_below n test ≡ false
unfolding all_below
below_fails test zero i l e = absurd (not-suc-le-zero l)
below_fails test (suc n) i l e =
    ⊎_elim (λ (q : i ≡ n). rw (rw q at e) (and-false (all_below n test))) (λ (k : i < n). rw (below_fails test n i k e))
    (eq-or-lt_of_le (le_of_suc-le-suc l))

module _ (test : ℕ → Bool) where
  -- before the first turn
  pub all_none : all_below 0 test ≡ true
  unfolding all_below
  all_none = refl

  -- a turn whose test passed
  pub all_more : (i : ℕ) {r : Bool} → all_below i test ≡ true → r ≡ test i → not r ≡ false → all_below (i + 1) test ≡ true
  unfolding all_below
  all_more i {r} h e t = rw (add-one i, h, ← e) (not-false r t)

  -- the turn whose test failed
  pub all_stop : (n i : ℕ) {r : Bool} → r ≡ test i → not r ≡ true → i < n → false ≡ all_below n test
  all_stop n i {r} e t l = sym (below_fails test n i l (sym e ∙ not-true r t))

  -- past the last
  pub all_done : (n i : ℕ) → all_below i test ≡ true → i ≡ n → true ≡ all_below n test
  all_done n i h q = rw q at (sym h)

pub below_first : (n : ℕ) (test : ℕ → Bool) → all_below (suc n) test ≡ (test 0 && all_below n (λ i. test (suc i)))
unfolding all_below
below_first zero test = sym (and-true (test 0))
below_first (suc n) test = rw (below_first n test) (and_assoc (test 0) (all_below n (λ i. test (suc i))) (test (suc n)))

-- a test of every element goes by the elements' places
pub all_places : {A : Type 0} (xs : List A) (test : A → Bool) (d : A) → all_below (length xs) (λ i. test (get_or xs i d)) ≡ all xs test
unfolding all_below all
all_places [] test d = refl
all_places (x ∷ xs) test d = below_first (length xs) (λ i. test (get_or (x ∷ xs) i d)) ∙ rw (all_places xs test d)

-- Tests and lists over the numbers below a bound, and over lists.
use Rattle.std.specs.Prelude.{ℕ, zero, suc, Bool, true, false, ◌&&◌, ◌||◌, List, [], ◌∷◌, ◌++◌, eqb}

-- the test passes at 0, 1, .. up to, not including, n
unfoldable pub all_below : ℕ → (ℕ → Bool) → Bool
all_below zero test = true
all_below (suc n) test = all_below n test && test n

-- f 0 ++ f 1 ++ .. up to, not including, n
unfoldable pub join_below : {A : Type 0} → ℕ → (ℕ → List A) → List A
join_below zero f = []
join_below (suc n) f = join_below n f ++ f n

-- as many numbers as `count` says, from `start` on
unfoldable pub up_to : ℕ → ℕ → List ℕ
up_to start zero = []
up_to start (suc count) = start ∷ up_to (suc start) count

unfoldable pub all : {A : Type 0} → List A → (A → Bool) → Bool
all [] test = true
all (x ∷ xs) test = test x && all xs test

unfoldable pub member : ℕ → List ℕ → Bool
member k [] = false
member k (x ∷ xs) = eqb k x || member k xs

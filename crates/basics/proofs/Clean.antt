-- Texts without a line end.
use Prim.Native.Nat.{ℕ, zero, suc, ◌+◌, ◌/◌, ◌%◌, ◌<◌}
use native.Mathlib.Omega.{arith}
use mathlib.Core.Path.{◌≡◌, refl}
use mathlib.Core.List.{[], ◌∷◌, ◌++◌}
use mathlib.Core.Bool.{Bool, true, not, ◌&&◌}
use lib.Dec.{eqb}
use lib.ListN.{get_or, take}
use borrow.Author.Tests.{ne_eqb}
use Rattle.basics.specs.Text.{Text, newline}
use Rattle.basics.specs.Basics.{int2_string_no_leading_zero, nat2_string}
use Rattle.basics.proofs.Bool.{and_both, both_and}

abbrev pub clean : Text → Bool
clean [] = true
clean (c ∷ cs) = not (eqb c newline) && clean cs

abbrev pub Clean : Text → Type 0
Clean t = clean t ≡ true

pub clean_append : (a b : Text) → Clean a → Clean b → Clean (a ++ b)
clean_append [] b p q = q
clean_append (c ∷ a) b p q = let r = and_both (not (eqb c newline)) (clean a) p in both_and r.0 (clean_append a b r.1 q)

clean_one : (c : ℕ) → (c ≡ newline → ⊥) → Clean (c ∷ [])
clean_one c h = rw (ne_eqb c newline h)

pub clean_take : (n : ℕ) (l : Text) → ((i : ℕ) → i < n → get_or l i 0 ≡ newline → ⊥) → Clean (take n l)
clean_take zero l h = refl
clean_take (suc n) [] h = refl
clean_take (suc n) (c ∷ l) h =
    both_and {a = not (eqb c newline)} (rw (ne_eqb c newline (h 0 (omega arith)))) (clean_take n l (λ i k. h (suc i) (omega arith)))

clean_digits : (fuel x : ℕ) → Clean (int2_string_no_leading_zero fuel x)
unfolding int2_string_no_leading_zero
clean_digits zero x = refl
clean_digits (suc fuel) zero = refl
clean_digits (suc fuel) (suc n) =
    clean_append (int2_string_no_leading_zero fuel (suc n / 10)) ((48 + suc n % 10) ∷ []) (clean_digits fuel (suc n / 10))
    (clean_one (48 + suc n % 10) (λ e. omega arith))

pub clean_nat : (x : ℕ) → Clean (nat2_string x)
unfolding nat2_string
clean_nat zero = refl
clean_nat (suc n) = clean_digits (suc n) (suc n)

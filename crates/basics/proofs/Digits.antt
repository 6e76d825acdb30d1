-- A number's digits: the fuel doesn't count, so the recursion is Dafny's.
use Prim.Native.Nat.{ℕ, zero, suc, ◌+◌, ◌/◌, ◌%◌, ◌^◌, ◌≤◌, ◌<◌}
use native.Mathlib.Omega.{arith}
use mathlib.Core.Path.{◌≡◌, refl, sym, ap, ◌∙◌}
use mathlib.Core.List.{[], ◌∷◌, ◌++◌}
use lib.ListN.{length}
use lib.IntN.{ℤ, pos, negsuc}
use mir.Syntax.{w64}
use mir.Val.{SFits}
use Rattle.std.specs.Fmt.{decimal, signed_decimal}
use Rattle.std.proofs.lemmas.Fmt.{decimal_from_appends}
use Rattle.basics.specs.Text.{Text}
use Rattle.basics.specs.Basics.{int2_string_no_leading_zero, nat2_string, int2_string}

same_digits : (f g x : ℕ) → x ≤ f → x ≤ g → int2_string_no_leading_zero f x ≡ int2_string_no_leading_zero g x
unfolding int2_string_no_leading_zero
same_digits zero zero x h k = refl
same_digits zero (suc g) zero h k = refl
same_digits zero (suc g) (suc n) h k = absurd (omega arith)
same_digits (suc f) zero zero h k = refl
same_digits (suc f) zero (suc n) h k = absurd (omega arith)
same_digits (suc f) (suc g) zero h k = refl
same_digits (suc f) (suc g) (suc n) h k = rw (same_digits f g (suc n / 10) (omega arith) (omega arith))

pub fuel_enough : (fuel x : ℕ) → x ≤ fuel → int2_string_no_leading_zero fuel x ≡ int2_string_no_leading_zero x x
fuel_enough fuel x h = same_digits fuel x x h (omega arith)

pub digits_step : (x : ℕ) → (x ≡ 0 → ⊥) → int2_string_no_leading_zero x x ≡ int2_string_no_leading_zero (x / 10) (x / 10) ++ ((48 + x % 10) ∷ [])
unfolding int2_string_no_leading_zero
digits_step zero h = absurd (h refl)
digits_step (suc n) h = rw (fuel_enough n (suc n / 10) (omega arith))

nat_digits : (x : ℕ) → 0 < x → nat2_string x ≡ int2_string_no_leading_zero x x
unfolding nat2_string
nat_digits zero h = absurd (omega arith)
nat_digits (suc n) h = refl

pub nat_more : (x : ℕ) → 10 ≤ x → nat2_string x ≡ nat2_string (x / 10) ++ ((48 + x % 10) ∷ [])
nat_more x h =
    nat_digits x (omega arith) ∙ digits_step x (λ e. omega arith)
    ∙ ap (λ (t : Text). t ++ ((48 + x % 10) ∷ [])) (sym (nat_digits (x / 10) (omega arith)))

pub nat_last : (x : ℕ) → x < 10 → nat2_string x ≡ (48 + x) ∷ []
unfolding nat2_string int2_string_no_leading_zero
nat_last zero h = refl
nat_last (suc n) h =
    let q : suc n / 10 ≡ 0 = omega arith in
    let r : suc n % 10 ≡ suc n = omega arith in
    digits_step (suc n) (λ e. omega arith) ∙ rw (q, r)

-- the library's text of a number
pub nat_decimal : (n : ℕ) → n < 2 ^ 64 → decimal n ≡ nat2_string n
nat_decimal n h = sym (decimal_from_appends (λ k x. nat2_string x) (record { one = λ k x l. nat_last x l; more = λ k x l. nat_more x l }) (length (decimal n)) n h (omega arith))

pub int_decimal : (x : ℤ) → SFits w64 x → signed_decimal x ≡ int2_string x
unfolding int2_string
int_decimal (pos n) f = nat_decimal n (omega (arith, f.sfits))
int_decimal (negsuc n) f = rw (nat_decimal (suc n) (omega (arith, f.sfits)))

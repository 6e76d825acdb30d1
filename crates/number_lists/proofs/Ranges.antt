-- A test at each place of a list, by a range of the places.
use Rattle.std.specs.List.{list_all, range_with_len}
use Prim.Native.Nat.{ℕ, zero, suc, ◌+◌, ◌<◌}
use native.Mathlib.Omega.{arith}
use mathlib.Core.Path.{◌≡◌, refl, sym, ap, ◌∙◌}
use mathlib.Core.Bool.{Bool}
use mathlib.Core.List.{List, [], ◌∷◌}
use lib.ListN.{length, get_or}
use Rattle.basics.specs.Lists.{all}

module _ {A : Type 0} (t : A → Bool) (f : ℕ → A) (d : A) where
  pub all_range_from : (a : ℕ) (xs : List A) → ((k : ℕ) → k < length xs → f (a + k) ≡ get_or xs k d) → list_all (λ i. t (f i)) (range_with_len a (length xs)) ≡ all xs t
  unfolding all
  all_range_from a [] h = refl
  all_range_from a (x ∷ xs) h =
      let here : f a ≡ x = ap f (omega arith) ∙ h 0 (omega arith) in
      rw (here, all_range_from (a + 1) xs (λ k l. let e : a + 1 + k ≡ a + suc k = omega arith in ap f e ∙ h (suc k) (omega arith)))

pub all_range : {A : Type 0} (t : A → Bool) (xs : List A) (d : A) → list_all (λ i. t (get_or xs i d)) (range_with_len 0 (length xs)) ≡ all xs t
all_range t xs d = all_range_from t (λ i. get_or xs i d) d 0 xs (λ k l. let e : 0 + k ≡ k = omega arith in ap (λ (i : ℕ). get_or xs i d) e)

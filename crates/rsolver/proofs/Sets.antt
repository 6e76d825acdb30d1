-- Sets as lists: what stands in a set with one element more, and that nothing stands twice.
use Rattle.std.specs.Prelude.{if◌then◌else◌}
use Prim.Native.Nat.{suc}
use mathlib.Core.Path.{◌≡◌, refl, ap}
use mathlib.Core.Bool.{Bool, true, false, ◌||◌, false≢true}
use mathlib.Core.Logic.{◌⊎◌, inl, inr}
use mathlib.Core.List.{List, [], ◌∷◌}
use lib.ListN.{length}
use borrow.Author.Tests.{eqb-true, eq-eqb}
use Rattle.rsolver.specs.Methods.{Marker, type, constant, function, axiom'}
use Rattle.rsolver.specs.SolverState.{same_marker, is_in, with'}

pub marker_refl : (m : Marker) → same_marker m m ≡ true
unfolding same_marker
marker_refl (type k) = eq-eqb k k refl
marker_refl (constant k) = eq-eqb k k refl
marker_refl (function k) = eq-eqb k k refl
marker_refl (axiom' k) = eq-eqb k k refl

pub marker_eq : (m n : Marker) → same_marker m n ≡ true → m ≡ n
unfolding same_marker
marker_eq (type j) (type k) e = ap type (eqb-true j k e)
marker_eq (type j) (constant k) e = absurd (false≢true e)
marker_eq (type j) (function k) e = absurd (false≢true e)
marker_eq (type j) (axiom' k) e = absurd (false≢true e)
marker_eq (constant j) (type k) e = absurd (false≢true e)
marker_eq (constant j) (constant k) e = ap constant (eqb-true j k e)
marker_eq (constant j) (function k) e = absurd (false≢true e)
marker_eq (constant j) (axiom' k) e = absurd (false≢true e)
marker_eq (function j) (type k) e = absurd (false≢true e)
marker_eq (function j) (constant k) e = absurd (false≢true e)
marker_eq (function j) (function k) e = ap function (eqb-true j k e)
marker_eq (function j) (axiom' k) e = absurd (false≢true e)
marker_eq (axiom' j) (type k) e = absurd (false≢true e)
marker_eq (axiom' j) (constant k) e = absurd (false≢true e)
marker_eq (axiom' j) (function k) e = absurd (false≢true e)
marker_eq (axiom' j) (axiom' k) e = ap axiom' (eqb-true j k e)

module _ {A : Type 0} (eq : A → A → Bool) where
  -- the list is as it was, or has the element in front
  pub with_list : (x : A) (xs : List A) → (with' eq x xs ≡ xs) ⊎ (with' eq x xs ≡ x ∷ xs)
  unfolding with'
  with_list x xs = at (is_in eq x xs)
    where
      at : (b : Bool) → ((if b then xs else x ∷ xs) ≡ xs) ⊎ ((if b then xs else x ∷ xs) ≡ x ∷ xs)
      at true = inl refl
      at false = inr refl

  pub length_with : (x : A) (xs : List A) → length (with' eq x xs) ≡ (if is_in eq x xs then length xs else suc (length xs))
  unfolding with'
  length_with x xs = at (is_in eq x xs)
    where
      at : (b : Bool) → length (if b then xs else x ∷ xs) ≡ (if b then length xs else suc (length xs))
      at true = refl
      at false = refl

  -- y stands in old + {x} where y is x, or stood in old
  pub in_with : ((x y : A) → eq x y ≡ true → x ≡ y) → (y x : A) (xs : List A) → is_in eq y (with' eq x xs) ≡ (eq y x || is_in eq y xs)
  unfolding with' is_in
  in_with sound y x xs = at (is_in eq x xs) refl (eq y x) refl
    where
      at : (b : Bool) → is_in eq x xs ≡ b → (c : Bool) → eq y x ≡ c → is_in eq y (if b then xs else x ∷ xs) ≡ (c || is_in eq y xs)
      at true e true f = rw (sound y x f) e
      at true e false f = refl
      at false e true f = rw f
      at false e false f = rw f

  abbrev pub Distinct : List A → Type 0
  Distinct [] = Unit {0}
  Distinct (x ∷ xs) = (is_in eq x xs ≡ false) × Distinct xs

  pub distinct_with : (x : A) (xs : List A) → Distinct xs → Distinct (with' eq x xs)
  unfolding with'
  distinct_with x xs h = at (is_in eq x xs) refl
    where
      at : (b : Bool) → is_in eq x xs ≡ b → Distinct (if b then xs else x ∷ xs)
      at true e = h
      at false e = (e, h)

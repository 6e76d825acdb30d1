-- Counting, membership and lists whose elements are apart; tests that are the same.
use Prim.Native.Nat.{ℕ, zero, suc, ◌+◌, ◌<◌}
use native.Mathlib.Omega.{arith}
use native.Mathlib.Decide.{dec_lt}
use mathlib.Core.Path.{◌≡◌, refl, sym, ◌∙◌}
use mathlib.Core.Logic.{◌⊎◌, inl, inr}
use mathlib.Core.Bool.{Bool, true, false, not}
use mathlib.Core.List.{List, [], ◌∷◌, ◌++◌, map}
use lib.Dec.{eqb}
use borrow.Author.Tests.{eqb-true, eq-eqb, not-true}
use Rattle.basics.specs.Lists.{all, join_below}
use Rattle.basics.proofs.All.{All, end, more, all_true}
use Rattle.basics.proofs.Bool.{and_both}
use Rattle.declared_once.specs.Symbols.{times, Among, here, there}
use Rattle.declared_once.specs.ToldApart.{apart}

pub bool_same : (a b : Bool) → (a ≡ true → b ≡ true) → (b ≡ true → a ≡ true) → a ≡ b
bool_same true b f g = sym (f refl)
bool_same false true f g = g refl
bool_same false false f g = refl

pub eqb_sym : (a b : ℕ) → eqb a b ≡ eqb b a
eqb_sym a b = bool_same _ _ (λ e. eq-eqb b a (sym (eqb-true a b e))) (λ e. eq-eqb a b (sym (eqb-true b a e)))

pub among_left : {A : Type 0} {x : A} {a : List A} → Among x a → (b : List A) → Among x (a ++ b)
among_left here b = here
among_left (there i) b = there (among_left i b)

pub among_right : {A : Type 0} {x : A} (a : List A) {b : List A} → Among x b → Among x (a ++ b)
among_right [] i = i
among_right (y ∷ a) i = there (among_right a i)

pub among_map : {A B : Type 0} (f : A → B) {x : A} {l : List A} → Among x l → Among (f x) (map f l)
among_map f here = here
among_map f (there i) = there (among_map f i)

pub all_among : {A : Type 0} {P : A → Type 0} {x : A} {l : List A} → All P l → Among x l → P x
all_among end i = elim i [ ]
all_among (more h hs) here = h
all_among (more h hs) (there i) = all_among hs i

pub among_join : {A : Type 0} {x : A} (n : ℕ) (f : ℕ → List A) (k : ℕ) → k < n → Among x (f k) → Among x (join_below n f)
unfolding join_below
among_join zero f k l i = absurd (omega arith)
among_join {x = x} (suc n) f k l i = at (λ m. among_join n f k m i) (dec_lt k n)
  where
    at : (k < n → Among x (join_below n f)) → Dec (k < n) → Among x (join_below n f ++ f n)
    at g (yes m) = among_left (g m) (f n)
    at g (no m) = let e : k ≡ n = omega arith in among_right (join_below n f) (rw e at i)

pub times-append : {A : Type 0} (test : A → Bool) (a b : List A) → times test (a ++ b) ≡ times test a + times test b
unfolding times
times-append test [] b = omega arith
times-append test (x ∷ a) b = omega (arith, times-append test a b)

-- two elements of a list without a clash are one, or do not clash
pub apart_two : {A : Type 0} (clashes : A → A → Bool) → ((x y : A) → clashes x y ≡ clashes y x) → {x y : A} {l : List A} → apart clashes l ≡ true
    → Among x l → Among y l → (x ≡ y) ⊎ (clashes x y ≡ false)
unfolding apart
apart_two clashes s h here here = inl refl
apart_two clashes s {x} {y} h here (there {xs = xs} j) =
    inr (not-true _ (all_among (all_true xs (λ z. not (clashes x z)) (and_both (all xs (λ z. not (clashes x z))) (apart clashes xs) h).0) j))
apart_two clashes s {x} {y} h (there {xs = xs} i) here =
    inr (s x y ∙ not-true _ (all_among (all_true xs (λ z. not (clashes y z)) (and_both (all xs (λ z. not (clashes y z))) (apart clashes xs) h).0) i))
apart_two clashes s h (there {y = z} {xs = xs} i) (there j) =
    apart_two clashes s (and_both (all xs (λ y. not (clashes z y))) (apart clashes xs) h).1 i j

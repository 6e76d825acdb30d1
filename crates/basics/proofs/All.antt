-- What holds of every element of a list.
use Prim.Native.Nat.{ℕ, zero, suc, ◌<◌}
use native.Mathlib.Omega.{arith}
use native.Mathlib.Decide.{dec_lt}
use mathlib.Core.Path.{◌≡◌, refl}
use mathlib.Core.Bool.{Bool, true}
use mathlib.Core.List.{List, [], ◌∷◌, ◌++◌, map}
use lib.ListN.{length, get_or}
use Rattle.basics.specs.Lists.{all, join_below}
use Rattle.basics.proofs.Bool.{and_both}

pub data All {A : Type 0} (P : A → Type 0) : List A → Type 0 where
  end : All P []
  more : {a : A} {l : List A} → P a → All P l → All P (a ∷ l)

pub all_append : {A : Type 0} {P : A → Type 0} {a b : List A} → All P a → All P b → All P (a ++ b)
all_append end r = r
all_append (more h t) r = more h (all_append t r)

pub all_split : {A : Type 0} {P : A → Type 0} (a b : List A) → All P (a ++ b) → All P a × All P b
all_split [] b h = (end, h)
all_split (x ∷ a) b (more h hs) = let r = all_split a b hs in (more h r.0, r.1)

-- what follows from what holds of each
pub all_weaken : {A : Type 0} {P Q : A → Type 0} → ((x : A) → P x → Q x) → {l : List A} → All P l → All Q l
all_weaken f end = end
all_weaken f (more {a = x} h hs) = more (f x h) (all_weaken f hs)

pub all_head : {A : Type 0} {P : A → Type 0} {a : A} {l : List A} → All P (a ∷ l) → P a
all_head (more h hs) = h

pub all_tail : {A : Type 0} {P : A → Type 0} {a : A} {l : List A} → All P (a ∷ l) → All P l
all_tail (more h hs) = hs

pub all_join : {A : Type 0} {P : A → Type 0} (n : ℕ) (f : ℕ → List A) → All P (join_below n f) → (i : ℕ) → i < n → All P (f i)
unfolding join_below
all_join zero f h i l = absurd (omega arith)
all_join {P = P} (suc n) f h i l = at (λ k. all_join n f (all_split (join_below n f) (f n) h).0 i k) (dec_lt i n)
  where
    at : (i < n → All P (f i)) → Dec (i < n) → All P (f i)
    at g (yes k) = g k
    at g (no k) = let e : i ≡ n = omega arith in rw e (all_split (join_below n f) (f n) h).1

pub all_map : {A B : Type 0} (P : B → Type 0) (Q : A → Type 0) (f : A → B) → ((x : A) → Q x → P (f x)) → {xs : List A} → All Q xs → All P (map f xs)
all_map P Q f g end = end
all_map P Q f g (more {a = x} h hs) = more (g x h) (all_map P Q f g hs)

pub all_get_d : {A : Type 0} {P : A → Type 0} {l : List A} → All P l → (i : ℕ) (d : A) → P d → P (get_or l i d)
all_get_d end i d h = h
all_get_d (more k ks) zero d h = k
all_get_d (more k ks) (suc i) d h = all_get_d ks i d h

pub all-at : {A : Type 0} {P : A → Type 0} {l : List A} → All P l → (i : ℕ) (d : A) → i < length l → P (get_or l i d)
all-at end i d h = absurd (omega arith)
all-at (more k ks) zero d h = k
all-at (more k ks) (suc i) d h = all-at ks i d (omega arith)

pub all_true : {A : Type 0} (xs : List A) (test : A → Bool) → all xs test ≡ true → All (λ x. test x ≡ true) xs
unfolding all
all_true [] test h = end
all_true (x ∷ xs) test h = let r = and_both (test x) (all xs test) h in more r.0 (all_true xs test r.1)

-- functions that agree on a list's elements
pub map_agree : {A B : Type 0} (Q : A → Type 0) (f g : A → B) → ((x : A) → Q x → f x ≡ g x) → {xs : List A} → All Q xs → map f xs ≡ map g xs
map_agree Q f g h end = refl
map_agree Q f g h (more {a = x} q qs) = rw (h x q, map_agree Q f g h qs)

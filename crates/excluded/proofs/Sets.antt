-- Sets of constants, and the lists that they hold.
use Prim.Native.Nat.{ℕ, zero, suc, ◌+◌, ◌/◌, ◌%◌, ◌<◌, ◌≤◌}
use native.Mathlib.Numerals.{add-one}
use native.Mathlib.Omega.{arith}
use mathlib.Core.Path.{◌≡◌, refl, sym, ap, ◌∙◌}
use mathlib.Core.Bool.{Bool, true, false, ◌||◌}
use mathlib.Core.List.{List, [], ◌∷◌}
use lib.Dec.{eqb}
use lib.ListN.{length, get_or, set, replicate}
use borrow.Author.Tests.{ne_eqb, eqb-true, eqb-false}
use Rattle.basics.specs.Lists.{member}
use Rattle.basics.specs.Bits.{has_bit, with_bit, has_number, with_number}
use Rattle.basics.proofs.Bits.{length_with, has_joined, has_other, has_none}
use Rattle.book.specs.Book.{Book, constants, lists, field, entries}
use Rattle.book.specs.Decode.{constant_of}
use Rattle.rsolver.specs.REngine.{with_constants}
use Rattle.excluded.specs.Excluded.{set_size, is_excluded, Excludes, Joined, with_range, Ranged}

-- the set's bit for v
pub bit_of : (set : List ℕ) (v : ℕ) → has_bit (get_or set (v / 8) 0) (v % 8) ≡ is_excluded set v
unfolding is_excluded has_number
bit_of set v = refl

pub joined_old : {s : List ℕ} {v : ℕ} → length s ≡ set_size → is_excluded s v ≡ true → Joined s s v
joined_old {s} {v} l e = record { long = l; joins = λ w h. at w (eqb w v) refl }
  where
    at : (w : ℕ) (t : Bool) → eqb w v ≡ t → is_excluded s w ≡ (t || is_excluded s w)
    at w true q = ap (is_excluded s) (eqb-true w v q) ∙ e
    at w false q = refl

pub joined_new : (s : List ℕ) (v : ℕ) {y : ℕ} → y ≡ with_bit (get_or s (v / 8) 0) (v % 8) → length s ≡ set_size → v < constants.most → Joined s (set s (v / 8) y) v
unfolding is_excluded with_number
joined_new s v is long small = rw is (record { long = length_with s v ∙ long; joins = λ w h. at w (eqb w v) refl })
  where
    at : (w : ℕ) (t : Bool) → eqb w v ≡ t → has_number (with_number s v) w ≡ (t || has_number s w)
    at w true q = ap (has_number (with_number s v)) (eqb-true w v q) ∙ has_joined s v (omega (arith, long))
    at w false q = has_other s v w (eqb-false w v q)

pub excludes_none : Excludes (replicate set_size 0) []
unfolding is_excluded member
excludes_none = record { long = refl; same = λ v h. has_none set_size v }

-- ---- and the lists that they hold
pub excludes_with : {s s' x : List ℕ} {v : ℕ} → Excludes s x → Joined s s' v → Excludes s' (v ∷ x)
unfolding member
excludes_with {s} {s'} {x} {v} e j = record { long = j.long; same = λ w h. j.joins w h ∙ ap (λ (t : Bool). eqb w v || t) (e.same w h) }

with_more : (b : Book) (start i : ℕ) (x : List ℕ) → with_range b start (suc i) x ≡ field b lists (start + i) 0 ∷ with_range b start i x
unfolding with_range with_constants entries constant_of
with_more b start zero x = let e : start + 0 ≡ start = omega arith in rw e
with_more b start (suc i) x = let e : start + suc i ≡ suc start + i = omega arith in rw e (with_more b (suc start) i (field b lists start 0 ∷ x))

pub ranged_none : (b : Book) (start : ℕ) (s : List ℕ) → Ranged b start 0 s s
unfolding with_range with_constants entries
ranged_none b start s = record { ranges = λ x e. e }

pub ranged_more : (b : Book) (start i : ℕ) {v : ℕ} {s s1 s2 : List ℕ} → Ranged b start i s s1 → v ≡ field b lists (start + i) 0 → Joined s1 s2 v → Ranged b start (i + 1) s s2
ranged_more b start i r e j = record { ranges = λ x k. rw (add-one i, with_more b start i x, ← e) (excludes_with (r.ranges x k) j) }

-- ---- a list that a set holds
abbrev pub join_if : Bool → ℕ → List ℕ → List ℕ
join_if true n l = n ∷ l
join_if false n l = l

pub listed : (set : List ℕ) → ℕ → List ℕ
listed s zero = []
listed s (suc n) = join_if (is_excluded s n) n (listed s n)

listed_above : (s : List ℕ) (n v : ℕ) → n ≤ v → member v (listed s n) ≡ false
unfolding listed member
listed_above s zero v h = refl
listed_above s (suc n) v h = at (is_excluded s n) (listed_above s n v (omega arith))
  where
    at : (t : Bool) → member v (listed s n) ≡ false → member v (join_if t n (listed s n)) ≡ false
    at true e = rw (ne_eqb v n (λ q. omega arith)) e
    at false e = e

listed_below : (s : List ℕ) (n v : ℕ) → v < n → is_excluded s v ≡ member v (listed s n)
unfolding listed member
listed_below s zero v h = absurd (omega arith)
listed_below s (suc n) v h = at (is_excluded s n) refl (eqb v n) refl (λ l. listed_below s n v l)
  where
    at : (t : Bool) → is_excluded s n ≡ t → (e : Bool) → eqb v n ≡ e → (v < n → is_excluded s v ≡ member v (listed s n)) → is_excluded s v ≡ member v (join_if t n (listed s n))
    at true q true r up = rw r (ap (is_excluded s) (eqb-true v n r) ∙ q)
    at true q false r up = rw r (up (omega (arith, eqb-false v n r)))
    at false q true r up = ap (is_excluded s) (eqb-true v n r) ∙ q ∙ sym (listed_above s n v (omega (arith, eqb-true v n r)))
    at false q false r up = up (omega (arith, eqb-false v n r))

pub excludes_listed : (s : List ℕ) → length s ≡ set_size → Excludes s (listed s constants.most)
excludes_listed s l = record { long = l; same = λ v h. listed_below s constants.most v h }

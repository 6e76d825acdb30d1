-- The first place of a text in a list, by what stands there and before it.
use Rattle.std.specs.Prelude.{if◌then◌else◌}
use Prim.Native.Nat.{ℕ, zero, suc, ◌<◌}
use native.Mathlib.Omega.{arith}
use mathlib.Core.Path.{◌≡◌, refl, sym}
use mathlib.Core.Bool.{Bool, true, false}
use mathlib.Core.List.{List, [], ◌∷◌}
use mathlib.Core.Option.{Option, none, some, some-injective, none-ne-some, some-ne-none}
use lib.ListN.{length, get_or}
use Rattle.basics.specs.Text.{Text, same}
use Rattle.name_search.specs.Names.{later, position}

-- the text t stands at n of the list, and nowhere before
pub record First (t : Text) (xs : List Text) (n : ℕ) : Type 0 where
  pub below : n < length xs
  pub here : same (get_or xs n []) t ≡ true
  pub before : (k : ℕ) → k < n → same (get_or xs k []) t ≡ false

-- it stands nowhere
abbrev pub Nowhere : Text → List Text → Type 0
Nowhere t xs = (k : ℕ) → k < length xs → same (get_or xs k []) t ≡ false

-- ---- what the place says
at_front : {t x : Text} (xs : List Text) → same x t ≡ true → First t (x ∷ xs) 0
at_front xs e = record { below = omega arith; here = e; before = λ k h. absurd (omega arith) }

behind_front : {t x : Text} {xs : List Text} {n : ℕ} → same x t ≡ false → First t xs n → First t (x ∷ xs) (suc n)
behind_front {t} {x} {xs} {n} e f = record { below = omega (arith, f.below); here = f.here; before = before }
  where
    before : (k : ℕ) → k < suc n → same (get_or (x ∷ xs) k []) t ≡ false
    before zero h = e
    before (suc k) h = f.before k (omega arith)

module _ (t : Text) where
  pub position_some : (xs : List Text) (n : ℕ) → position t xs ≡ some n → First t xs n
  unfolding position later
  position_some [] n e = absurd (none-ne-some _ e)
  position_some (x ∷ xs) n e = at (position_some xs) (same x t) refl e
    where
      behind : ((m : ℕ) → position t xs ≡ some m → First t xs m) → same x t ≡ false → (o : Option ℕ) → position t xs ≡ o → later o ≡ some n → First t (x ∷ xs) n
      behind up q none p f = absurd (none-ne-some _ f)
      behind up q (some m) p f = rw (sym (some-injective (suc m) n f)) (behind_front q (up m p))

      at : ((m : ℕ) → position t xs ≡ some m → First t xs m) → (s : Bool) → same x t ≡ s → (if s then some 0 else later (position t xs)) ≡ some n → First t (x ∷ xs) n
      at up true q f = rw (sym (some-injective 0 n f)) (at_front xs q)
      at up false q f = behind up q (position t xs) refl f

  pub position_none : (xs : List Text) → position t xs ≡ none → Nowhere t xs
  unfolding position later
  position_none [] e k h = absurd (omega arith)
  position_none (x ∷ xs) e k h = at (position_none xs) (same x t) refl e k h
    where
      behind : (position t xs ≡ none → Nowhere t xs) → same x t ≡ false → (o : Option ℕ) → position t xs ≡ o → later o ≡ none → Nowhere t (x ∷ xs)
      behind up q none p f zero h = q
      behind up q none p f (suc k) h = up p k (omega arith)
      behind up q (some m) p f k h = absurd (some-ne-none _ f)

      at : (position t xs ≡ none → Nowhere t xs) → (s : Bool) → same x t ≡ s → (if s then some 0 else later (position t xs)) ≡ none → Nowhere t (x ∷ xs)
      at up true q f = absurd (some-ne-none _ f)
      at up false q f = behind up q (position t xs) refl f

  -- ---- and the other way
  pub some_position : (xs : List Text) (n : ℕ) → First t xs n → position t xs ≡ some n
  unfolding position later
  some_position [] n f = absurd (omega (arith, f.below))
  some_position (x ∷ xs) zero f = rw f.here
  some_position (x ∷ xs) (suc n) f =
      rw (f.before 0 (omega arith), some_position xs n (record { below = omega (arith, f.below); here = f.here; before = λ k h. f.before (suc k) (omega arith) }))

  pub none_position : (xs : List Text) → Nowhere t xs → position t xs ≡ none
  unfolding position later
  none_position [] h = refl
  none_position (x ∷ xs) h = rw (h 0 (omega arith), none_position xs (λ k l. h (suc k) (omega arith)))

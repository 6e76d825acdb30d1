-- Equal numbers are equal bytes, and steps that cover two texts.
use Prim.Native.Nat.{ℕ, ◌+◌, ◌*◌, ◌<◌, ◌≤◌}
use native.Mathlib.Omega.{arith}
use native.Mathlib.Decide.{dec_lt}
use mathlib.Core.Path.{◌≡◌, sym, ap, ◌∙◌}
use mathlib.Core.Bool.{true, false}
use lib.ListN.{length, get_or}
use Rattle.basics.specs.Text.{Text, same}
use Rattle.basics.specs.Letters.{Four, four_at, eight_at, Eight}
use Rattle.basics.proofs.Texts.{same_no, same_bytes}

-- the letters from i up to n are the same
abbrev pub Alike : Text → Text → ℕ → ℕ → Type 0
Alike a b i n = (k : ℕ) → i ≤ k → k < n → get_or a k 0 ≡ get_or b k 0

four_small : (a : Text) (i : ℕ) → Four a i → four_at a i < 4294967296
four_small a i f = omega (arith, f.first, f.second, f.third, f.fourth)

-- a byte before a number
byte_first : (x y p q : ℕ) → x < 256 → y < 256 → x + 256 * p ≡ y + 256 * q → (x ≡ y) × (p ≡ q)
byte_first x y p q l m e = let r : p ≡ q = omega (arith, l, m, e) in (omega (arith, r, e), r)

module _ (a b : Text) where
  none_alike : (i : ℕ) → Alike a b i i
  none_alike i k h l = absurd (omega arith)

  more_alike : (i j n : ℕ) → j ≡ i + 1 → get_or a i 0 ≡ get_or b i 0 → Alike a b j n → Alike a b i n
  more_alike i j n e h rest k l m = at (dec_lt i k)
    where
      at : Dec (i < k) → get_or a k 0 ≡ get_or b k 0
      at (yes y) = rest k (omega arith) m
      at (no y) = let q : k ≡ i = omega arith in rw q h

  pub joined : (i j n : ℕ) → Alike a b i j → Alike a b j n → Alike a b i n
  joined i j n f g k l m = at (dec_lt k j)
    where
      at : Dec (k < j) → get_or a k 0 ≡ get_or b k 0
      at (yes y) = f k l y
      at (no y) = g k (omega arith) m

  four_alike : (i n : ℕ) → n ≡ i + 4 → Four a i → Four b i → four_at a i ≡ four_at b i → Alike a b i n
  four_alike i n h f g e =
      let p = get_or a (i + 1) 0 + 256 * get_or a (i + 2) 0 + 65536 * get_or a (i + 3) 0 in
      let q = get_or b (i + 1) 0 + 256 * get_or b (i + 2) 0 + 65536 * get_or b (i + 3) 0 in
      let (w, r) = byte_first _ _ p q f.first g.first (omega (arith, e)) in
      let (x, s) = byte_first _ _ (get_or a (i + 2) 0 + 256 * get_or a (i + 3) 0) (get_or b (i + 2) 0 + 256 * get_or b (i + 3) 0) f.second g.second (omega (arith, r)) in
      let (y, z) = byte_first _ _ (get_or a (i + 3) 0) (get_or b (i + 3) 0) f.third g.third (omega (arith, s)) in
      more_alike i (i + 1) n (omega arith) w (more_alike (i + 1) (i + 2) n (omega arith) x (more_alike (i + 2) (i + 3) n (omega arith) y (more_alike (i + 3) n n (omega arith) z (none_alike n))))

  -- two steps with one number
  pub eight_alike : (i n : ℕ) {r t : ℕ} → n ≡ i + 8 → Eight a i r → Eight b i t → r ≡ t → Alike a b i n
  eight_alike i n h f g e =
      let s : eight_at a i ≡ eight_at b i = sym f.is ∙ e ∙ g.is in
      let l : four_at a i ≡ four_at b i = omega (arith, four_small a i f.low, four_small b i g.low, s) in
      let u : four_at a (i + 4) ≡ four_at b (i + 4) = omega (arith, l, s) in
      joined i (i + 4) n (four_alike i (i + 4) (omega arith) f.low g.low l) (four_alike (i + 4) n (omega arith) f.high g.high u)

  -- two steps with different numbers
  pub eight_differs : (i : ℕ) {r t : ℕ} → Eight a i r → Eight b i t → (r ≡ t → ⊥) → false ≡ same a b
  eight_differs i f g h = same_no a b (λ e. h (f.is ∙ ap (λ (l : Text). eight_at l i) e ∙ sym g.is))

  -- all letters
  pub all_alike : (n : ℕ) → length a ≡ length b → length a ≤ n → Alike a b 0 n → true ≡ same a b
  all_alike n l h e = same_bytes a b n l h (λ k m. e k (omega arith) m)

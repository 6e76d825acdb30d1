-- A 32-bit number and its four bytes.
use Prim.Native.Nat.{ℕ, ◌+◌, ◌*◌, ◌/◌, ◌%◌, ◌^◌, ◌<◌}
use native.Mathlib.Nat.{div-div-eq-div-mul}
use native.Mathlib.Omega.{arith}
use mathlib.Core.Path.{◌≡◌, refl, sym, ap, ◌∙◌}
use mathlib.Core.List.{List, [], ◌∷◌}
use lib.ListN.{length, length-append}
use Rattle.book.specs.Book.{word}
use Rattle.basics.specs.Bytes.{bytes4, row}

split_byte : (x : ℕ) → x % 256 + 256 * (x / 256) ≡ x
split_byte x = omega arith

last_byte : (x : ℕ) → x < 256 → x % 256 ≡ x
last_byte x h = omega arith

-- y is x without its lowest byte a, and so on
joined : (a b c d x y z w : ℕ) → a + 256 * y ≡ x → b + 256 * z ≡ y → c + 256 * w ≡ z → d ≡ w → a + 256 * b + 65536 * c + 16777216 * d ≡ x
joined a b c d x y z w e f g h = omega arith

top_small : (a b c x y z w : ℕ) → a + 256 * y ≡ x → b + 256 * z ≡ y → c + 256 * w ≡ z → x < 2 ^ 32 → w < 256
top_small a b c x y z w e f g h = omega arith

pub four_bytes : (x : ℕ) → x < 2 ^ 32 → x % 256 + 256 * (x / 256 % 256) + 65536 * (x / 65536 % 256) + 16777216 * (x / 16777216 % 256) ≡ x
four_bytes x h =
    let y = x / 256 in
    let z = y / 256 in
    let w = z / 256 in
    let a : x / 65536 ≡ z = sym (div-div-eq-div-mul x 256 256) in
    let b : x / 16777216 ≡ w = sym (ap (λ (q : ℕ). q / 256) (div-div-eq-div-mul x 256 256) ∙ div-div-eq-div-mul x 65536 256) in
    let t : w < 256 = top_small (x % 256) (y % 256) (z % 256) x y z w (split_byte x) (split_byte y) (split_byte z) h in
    rw (a, b) (joined (x % 256) (y % 256) (z % 256) (w % 256) x y z w (split_byte x) (split_byte y) (split_byte z) (last_byte w t))

pub length_bytes4 : (x : ℕ) → length (bytes4 x) ≡ 4
unfolding bytes4
length_bytes4 x = refl

-- the number that four bytes hold
pub word_bytes4 : (x : ℕ) → x < 2 ^ 32 → word (bytes4 x) 0 ≡ x
unfolding bytes4
word_bytes4 x h = four_bytes x h

-- the four bytes of the number that they hold
pub bytes4_word : (a b c d : ℕ) → a < 256 → b < 256 → c < 256 → d < 256 → bytes4 (a + 256 * b + 65536 * c + 16777216 * d) ≡ a ∷ b ∷ c ∷ d ∷ []
unfolding bytes4
bytes4_word a b c d ha hb hc hd =
    let x = a + 256 * b + 65536 * c + 16777216 * d in
    let q1 : x / 256 ≡ b + 256 * c + 65536 * d = omega arith in
    let q2 : x / 65536 ≡ c + 256 * d = omega arith in
    let q3 : x / 16777216 ≡ d = omega arith in
    let e0 : x % 256 ≡ a = omega arith in
    let e1 : (b + 256 * c + 65536 * d) % 256 ≡ b = omega arith in
    let e2 : (c + 256 * d) % 256 ≡ c = omega arith in
    let e3 : d % 256 ≡ d = omega arith in
    rw (q1, q2, q3) (λ i. e0 i ∷ e1 i ∷ e2 i ∷ e3 i ∷ [])

pub length_row : (xs : List ℕ) → length (row xs) ≡ 4 * length xs
unfolding row
length_row [] = refl
length_row (x ∷ xs) = length-append (bytes4 x) (row xs) ∙ omega (arith, length_bytes4 x, length_row xs)

-- Basics.dfy: SeqToString, Int2String, Comma.
use Rattle.std.specs.Prelude.{ℕ, zero, suc, ◌+◌, ◌-◌, ◌^◌, ◌/◌, ◌%◌, List, [], ◌∷◌, ◌++◌, map, ltb, ℤ, pos, negsuc, if◌then◌else◌}
use Rattle.basics.specs.Text.{Text, ascii}

-- Int2StringNoLeadingZero, with fuel: x itself is enough, since x / 10 is smaller
unfoldable pub int2_string_no_leading_zero : (fuel x : ℕ) → Text
int2_string_no_leading_zero zero x = []
int2_string_no_leading_zero (suc fuel) zero = []
int2_string_no_leading_zero (suc fuel) (suc n) = int2_string_no_leading_zero fuel (suc n / 10) ++ ((48 + suc n % 10) ∷ [])

-- Int2String of a number that is not negative
unfoldable pub nat2_string : ℕ → Text
nat2_string zero = ascii "0"
nat2_string (suc n) = int2_string_no_leading_zero (suc n) (suc n)

unfoldable pub int2_string : ℤ → Text
int2_string (pos n) = nat2_string n
int2_string (negsuc n) = ascii "-" ++ nat2_string (suc n)

-- 64 bits read as two's complement
unfoldable pub int64 : ℕ → ℤ
int64 bits = if ltb bits (2 ^ 63) then pos bits else negsuc (2 ^ 64 - suc bits)

unfoldable pub comma : List Text → (separator : Text) → Text
comma [] separator = []
comma (s ∷ []) separator = s
comma (s ∷ t ∷ ts) separator = s ++ separator ++ comma (t ∷ ts) separator

-- Seq.Join is Comma
unfoldable pub seq_to_string : {A : Type 0} → List A → (A → Text) → (separator : Text) → Text
seq_to_string s f separator = comma (map f s) separator

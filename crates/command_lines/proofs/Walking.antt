-- A line, byte by byte.
use Prim.Native.Nat.{ℕ, zero, suc, ◌+◌, ◌≤◌, ◌<◌}
use native.Mathlib.Omega.{arith}
use native.Mathlib.Numerals.{add-one}
use native.Mathlib.Decide.{dec_lt}
use mathlib.Core.Path.{◌≡◌, refl, sym}
use mathlib.Core.List.{[], ◌∷◌}
use lib.ListN.{length, get_or, drop, drop_of_length-le, get_or-eq_default}
use lib.Seq.{drop-cons}
use borrow.Author.Tests.{eq-eqb, ne_eqb}
use Rattle.basics.specs.Text.{Text, newline}
use Rattle.command_lines.specs.Lines.{line_by, line_of, line_at, line_end}

pub byte_inside : (s : Text) (k : ℕ) → k < length s → get_or s k 0 ≡ get_or s k newline
byte_inside [] k h = absurd (omega arith)
byte_inside (c ∷ s) zero h = refl
byte_inside (c ∷ s) (suc k) h = byte_inside s k (omega arith)

pub byte_behind : (s : Text) (k : ℕ) → length s ≤ k → newline ≡ get_or s k newline
byte_behind s k h = sym (get_or-eq_default s newline {n = k} h)

-- a byte that is no line end stands in the text
pub inside : (s : Text) (k : ℕ) → (get_or s k newline ≡ newline → ⊥) → k < length s
inside s k h = at (dec_lt k (length s))
  where
    at : Dec (k < length s) → k < length s
    at (yes l) = l
    at (no l) = absurd (h (get_or-eq_default s newline {n = k} (omega arith)))

-- the line ends here
pub line_stop : (s : Text) (k : ℕ) → get_or s k newline ≡ newline → line_at s k ≡ []
unfolding line_at line_of line_by
line_stop s k e = at (dec_lt k (length s))
  where
    at : Dec (k < length s) → line_of (drop k s) ≡ []
    at (yes l) = rw (drop-cons s k newline l, eq-eqb (get_or s k newline) newline e)
    at (no l) = rw (drop_of_length-le s {i = k} (omega arith))

-- or goes on
pub line_more : (s : Text) (k : ℕ) → (get_or s k newline ≡ newline → ⊥) → line_at s k ≡ get_or s k newline ∷ line_at s (k + 1)
unfolding line_at line_of line_by
line_more s k h = rw (drop-cons s k newline (inside s k h), ne_eqb (get_or s k newline) newline h, add-one k)

pub end_here : (s : Text) (k : ℕ) → get_or s k newline ≡ newline → line_end s k ≡ k
unfolding line_end
end_here s k e = rw (line_stop s k e) (omega arith)

pub end_later : (s : Text) (k : ℕ) → (get_or s k newline ≡ newline → ⊥) → line_end s k ≡ line_end s (k + 1)
unfolding line_end
end_later s k h = rw (line_more s k h) (omega arith)

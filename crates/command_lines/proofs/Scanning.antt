-- The parentheses of a line, byte by byte.
use Rattle.std.specs.Prelude.{if◌then◌else◌}
use Prim.Native.Nat.{ℕ, zero, suc, ◌+◌, ◌≤◌, ◌<◌}
use native.Mathlib.Omega.{arith}
use native.Mathlib.Numerals.{add-one}
use mathlib.Core.Path.{◌≡◌, sym, ap, ◌∙◌}
use mathlib.Core.Bool.{Bool, true, false}
use lib.Dec.{eqb}
use lib.ListN.{length, get_or, drop, drop_of_length-le}
use lib.Seq.{drop-cons}
use Rattle.basics.specs.Text.{Text}
use Rattle.command_lines.specs.declared.parentheses.Scan.{Scan}
use Rattle.command_lines.specs.declared.parentheses.Scan.TheVariants.{Outside, Between}
use Rattle.command_lines.specs.CommandLines.{Mark, mark_of, closing, step_outside, scan_byte, scan, is_shut, depth_of}

-- a byte opens one parenthesis at most
closing_depth : (n : ℕ) → depth_of (closing n) ≤ suc n
unfolding closing depth_of
closing_depth zero = omega arith
closing_depth (suc zero) = omega arith
closing_depth (suc (suc n)) = omega arith

outside_depth : (m : Mark) (n : ℕ) → depth_of (step_outside m n) ≤ suc n
unfolding step_outside depth_of
outside_depth Mark.bars n = omega arith
outside_depth Mark.opens n = omega arith
outside_depth Mark.closes n = closing_depth n
outside_depth Mark.forbidden n = omega arith
outside_depth Mark.plain n = omega arith

pub byte_depth : (s : Scan) (c : ℕ) → depth_of (scan_byte s c) ≤ suc (depth_of s)
unfolding scan_byte depth_of
byte_depth (Scan.Outside n) c = outside_depth (mark_of c) n
byte_depth (Scan.Between n) c = at (eqb c 0x7C)
  where
    at : (x : Bool) → depth_of (if x then Outside n else Between n) ≤ suc n
    at true = omega arith
    at false = omega arith
byte_depth Scan.Shut c = omega arith
byte_depth Scan.Wrong c = omega arith

-- ---- the line
abbrev pub Scanned : (t : Text) (s : Scan) (k : ℕ) → Type 0
Scanned t s k = scan (Outside 0) t ≡ scan s (drop k t)

pub scan_more : (t : Text) (s : Scan) (k : ℕ) {r : Scan} → Scanned t s k → k < length t → r ≡ scan_byte s (get_or t k 0) → Scanned t r (k + 1)
unfolding scan
scan_more t s k l h q = l ∙ rw (drop-cons t k 0 h, q, add-one k)

pub scan_done : (t : Text) (s : Scan) (k : ℕ) {r : Bool} → Scanned t s k → length t ≤ k → r ≡ is_shut s → r ≡ is_shut (scan (Outside 0) t)
unfolding scan
scan_done t s k l h q = q ∙ ap is_shut (sym (l ∙ rw (drop_of_length-le t {i = k} h)))

pub depth_more : (s : Scan) (c k : ℕ) {r : Scan} → r ≡ scan_byte s c → depth_of s ≤ k → depth_of r ≤ k + 1
depth_more s c k e h = rw e (omega (arith, byte_depth s c))

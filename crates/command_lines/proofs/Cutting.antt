-- The reader's lines of a text, one after the other by their places.
use Prim.Native.Nat.{ℕ, zero, suc, ◌+◌, ◌≤◌, ◌<◌}
use native.Mathlib.Omega.{arith}
use mathlib.Core.Path.{◌≡◌, refl, ap, ◌∙◌}
use mathlib.Core.Bool.{Bool, true, false}
use mathlib.Core.List.{List, [], ◌∷◌}
use lib.Dec.{eqb}
use lib.ListN.{length, get_or, drop, drop_of_length-le, length-drop}
use lib.Seq.{drop-cons, drop-drop}
use Rattle.basics.specs.Text.{Text, newline}
use Rattle.smt_engines.specs.Reader.{glue, cut, Reader, hear, hear_all}
use Rattle.command_lines.specs.Lines.{line_by, line_of, line_at, line_end}
use Rattle.command_lines.specs.CommandLines.{ended}

cut_line : (c : ℕ) (s : Text) → cut (c ∷ s) ≡ line_of (c ∷ s) ∷ cut (drop (length (line_of (c ∷ s))) s)
unfolding cut glue line_of line_by
cut_line c [] = at (eqb c newline)
  where
    at : (x : Bool) → glue x c [] ≡ line_by x c [] ∷ cut (drop (length (line_by x c [])) [])
    at true = refl
    at false = refl
cut_line c (d ∷ s) = at (eqb c newline) (cut_line d s)
  where
    at : (x : Bool) → cut (d ∷ s) ≡ line_of (d ∷ s) ∷ cut (drop (length (line_of (d ∷ s))) s)
        → glue x c (cut (d ∷ s)) ≡ line_by x c (line_of (d ∷ s)) ∷ cut (drop (length (line_by x c (line_of (d ∷ s)))) (d ∷ s))
    at true e = refl
    at false e = ap (glue false c) e

-- the line up to its end, and the rest behind it
pub cut_at : (s : Text) (at : ℕ) → at < length s → cut (drop at s) ≡ line_at s at ∷ cut (drop (suc (line_end s at)) s)
unfolding line_at line_end
cut_at s at h =
    let n = length (line_of (drop at s)) in
    let e = drop-cons s at 0 h in
    let step : cut (drop at s) ≡ line_of (drop at s) ∷ cut (drop n (drop (suc at) s)) = rw e (cut_line (get_or s at 0) (drop (suc at) s)) in
    let q : suc at + n ≡ suc (at + n) = omega arith in
    step ∙ ap {B = List Text} (λ t. line_of (drop at s) ∷ cut t) (drop-drop n (suc at) s ∙ ap (λ (k : ℕ). drop k s) q)

pub cut_behind : (s : Text) (at : ℕ) → length s ≤ at → cut (drop at s) ≡ []
unfolding cut
cut_behind s at h = ap cut (drop_of_length-le s {i = at} h)

-- a reader hears the line at a place, and then those behind it
pub hear_at : (r : Reader) (s : Text) (at : ℕ) → at < length s → hear_all r (cut (drop at s)) ≡ hear_all (hear r (line_at s at)) (cut (drop (suc (line_end s at)) s))
unfolding hear_all
hear_at r s at h = ap (hear_all r) (cut_at s at h)

-- every line of an ended text has its end
ended_tail : (c : ℕ) (s : Text) → ended (c ∷ s) ≡ true → ended s ≡ true
unfolding ended
ended_tail c [] h = refl
ended_tail c (d ∷ s) h = h

ended_drop : (s : Text) (k : ℕ) → ended s ≡ true → ended (drop k s) ≡ true
unfolding ended
ended_drop [] zero h = refl
ended_drop [] (suc k) h = refl
ended_drop (c ∷ s) zero h = h
ended_drop (c ∷ s) (suc k) h = ended_drop s k (ended_tail c s h)

line_short : (c : ℕ) (s : Text) → ended (c ∷ s) ≡ true → length (line_of (c ∷ s)) < length (c ∷ s)
unfolding ended line_of line_by
line_short c [] h = rw h (omega arith)
line_short c (d ∷ s) h = at (eqb c newline) (line_short d s h)
  where
    at : (x : Bool) → length (line_of (d ∷ s)) < length (d ∷ s) → length (line_by x c (line_of (d ∷ s))) < suc (length (d ∷ s))
    at true l = omega arith
    at false l = omega arith

pub end_short : (s : Text) (at : ℕ) → ended (drop at s) ≡ true → at < length s → line_end s at < length s
unfolding line_at line_end
end_short s at h l =
    let e = drop-cons s at 0 l in
    let k : length (line_of (drop at s)) < length (drop at s) = rw e (line_short (get_or s at 0) (drop (suc at) s) (rw e at h)) in
    omega (arith, k, length-drop at s)

-- a line that has its end leaves it to the rest
ended_line : (c : ℕ) (s : Text) → length (line_of (c ∷ s)) < length (c ∷ s) → ended (c ∷ s) ≡ ended (drop (length (line_of (c ∷ s))) s)
unfolding ended line_of line_by
ended_line c [] h = at (eqb c newline) h
  where
    at : (x : Bool) → length (line_by x c []) < 1 → x ≡ ended (drop (length (line_by x c [])) [])
    at true l = refl
    at false l = absurd (omega arith)
ended_line c (d ∷ s) h = at (eqb c newline) h (λ l. ended_line d s l)
  where
    at : (x : Bool) → length (line_by x c (line_of (d ∷ s))) < suc (length (d ∷ s))
        → (length (line_of (d ∷ s)) < length (d ∷ s) → ended (d ∷ s) ≡ ended (drop (length (line_of (d ∷ s))) s))
        → ended (d ∷ s) ≡ ended (drop (length (line_by x c (line_of (d ∷ s)))) (d ∷ s))
    at true l rec = refl
    at false l rec = rec (omega arith)

pub ended_at : (s : Text) (at : ℕ) → at < length s → line_end s at < length s → ended (drop at s) ≡ ended (drop (suc (line_end s at)) s)
unfolding line_at line_end
ended_at s at h l =
    let n = length (line_of (drop at s)) in
    let e = drop-cons s at 0 h in
    let k : n < length (drop at s) = omega (arith, l, length-drop at s) in
    let step : ended (drop at s) ≡ ended (drop n (drop (suc at) s)) = rw e (ended_line (get_or s at 0) (drop (suc at) s) (rw e at k)) in
    let q : suc at + n ≡ suc (at + n) = omega arith in
    step ∙ ap {B = Bool} (λ t. ended t) (drop-drop n (suc at) s ∙ ap (λ (i : ℕ). drop i s) q)

line_most : (s : Text) → length (line_of s) ≤ length s
unfolding line_of line_by
line_most [] = omega arith
line_most (c ∷ s) = at (eqb c newline) (line_most s)
  where
    at : (x : Bool) → length (line_of s) ≤ length s → length (line_by x c (line_of s)) ≤ suc (length s)
    at true l = omega arith
    at false l = omega arith

pub end_most : (s : Text) (at : ℕ) → at ≤ length s → line_end s at ≤ length s
unfolding line_at line_end
end_most s at h = omega (arith, line_most (drop at s), length-drop at s)

pub end_behind : (s : Text) (at : ℕ) → at ≤ line_end s at
unfolding line_end
end_behind s at = omega arith

-- by the line itself
pub end_is : (s : Text) (at : ℕ) {line : Text} → line ≡ line_at s at → at + length line ≡ line_end s at
unfolding line_end
end_is s at e = ap (λ (l : Text). at + length l) e

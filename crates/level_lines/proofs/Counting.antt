-- Lines that are counted.
use Rattle.std.specs.Prelude.{cond, if◌then◌else◌}
use Rattle.std.specs.List.{filter, list_all}
use Prim.Native.Nat.{ℕ, ◌+◌}
use native.Mathlib.Omega.{arith}
use mathlib.Core.Path.{◌≡◌, refl, sym, ◌∙◌}
use mathlib.Core.Bool.{Bool, true, false}
use mathlib.Core.List.{List, [], ◌∷◌}
use lib.Dec.{eqb}
use lib.ListN.{length, length-map}
use borrow.Author.Tests.{eq-eqb, ne_eqb}
use Rattle.basics.specs.Text.{Text, same}
use Rattle.basics.specs.Lists.{all}
use Rattle.basics.proofs.Texts.{same_sym}
use Rattle.command_lines.specs.Lines.{line_at}
use Rattle.live_lines.specs.LiveLines.{lines_at}
use Rattle.level_lines.specs.AsOften.{times_in, even_in, as_often}

-- as often as the test passes
pub times_filter : (line s : Text) (starts : List ℕ) → length (filter (λ at. same (line_at s at) line) starts) ≡ times_in line (lines_at s starts)
unfolding times_in lines_at
times_filter line s [] = refl
times_filter line s (k ∷ starts) = rw (same_sym (line_at s k) line) (at (same line (line_at s k)) _ (times_filter line s starts))
  where
    at : (x : Bool) (f : List ℕ) {n : ℕ} → length f ≡ n → length (cond x (k ∷ f) f) ≡ (if x then 1 else 0) + n
    at true f e = omega (arith, e)
    at false f e = omega (arith, e)

pub all_lines : (t : Text → Bool) (s : Text) (starts : List ℕ) → list_all (λ at. t (line_at s at)) starts ≡ all (lines_at s starts) t
unfolding all lines_at
all_lines t s [] = refl
all_lines t s (k ∷ starts) = rw (all_lines t s starts)

pub even_by : (l m : List Text) {x line : Text} {p q : ℕ} → line ≡ x → p ≡ times_in line l → q ≡ times_in line m → eqb p q ≡ even_in l m x
unfolding even_in
even_by l m e a b = rw (a, b, e)

-- ---- as many
module _ (a b : Text) (xs ys : List ℕ) where
  pub often_even : length xs ≡ length ys → all (lines_at a xs) (even_in (lines_at a xs) (lines_at b ys)) ≡ as_often (lines_at a xs) (lines_at b ys)
  unfolding as_often lines_at
  often_even h = rw (eq-eqb (length (lines_at a xs)) (length (lines_at b ys)) (length-map xs (line_at a) ∙ h ∙ sym (length-map ys (line_at b))))

  pub often_uneven : (length xs ≡ length ys → ⊥) → eqb (length xs) (length ys) ≡ as_often (lines_at a xs) (lines_at b ys)
  unfolding as_often lines_at
  often_uneven h =
      rw (ne_eqb (length xs) (length ys) h, ne_eqb (length (lines_at a xs)) (length (lines_at b ys)) (λ e. h (sym (length-map xs (line_at a)) ∙ e ∙ length-map ys (line_at b))))

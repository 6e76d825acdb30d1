-- Lines that are the same in the same order.
use Rattle.std.specs.List.{list_all, zip}
use Prim.Native.Nat.{ℕ}
use native.Mathlib.Omega.{arith}
use mathlib.Core.Path.{◌≡◌, refl, sym, ap, ap₂, ◌∙◌}
use mathlib.Core.Bool.{Bool, true, false, false≢true}
use mathlib.Core.List.{List, [], ◌∷◌}
use lib.Dec.{eqb}
use lib.ListN.{length, length-map}
use borrow.Author.Tests.{ne_eqb}
use Rattle.basics.specs.Text.{Text, same}
use Rattle.basics.proofs.Bool.{and_both}
use Rattle.basics.proofs.Texts.{same_eq}
use Rattle.command_lines.specs.Lines.{line_at}
use Rattle.live_lines.specs.LiveLines.{lines_at}
use Rattle.level_lines.proofs.Bags.{bag_same}
use Rattle.level_lines.specs.AsOften.{as_often}
use Rattle.level_lines.specs.LevelLines.{all_same}

-- ---- in the same order, each is as often
all_same_eq : (l m : List Text) → all_same l m ≡ true → l ≡ m
unfolding all_same
all_same_eq [] [] e = refl
all_same_eq [] (y ∷ m) e = absurd (false≢true e)
all_same_eq (x ∷ l) [] e = absurd (false≢true e)
all_same_eq (x ∷ l) (y ∷ m) e =
    let r = and_both (same x y) (all_same l m) e in
    ap₂ {B = List Text} {C = List Text} (λ c d. c ∷ d) (same_eq x y r.0) (all_same_eq l m r.1)

pub often_ordered : (l m : List Text) {r : Bool} → r ≡ all_same l m → r ≡ true → true ≡ as_often l m
often_ordered l m e t = rw (all_same_eq l m (sym e ∙ t)) (sym (bag_same m m (λ x. refl)))

-- ---- line by line
module _ (a b : Text) where
  pub all_zip : (xs ys : List ℕ) → length xs ≡ length ys → list_all (λ p. same (line_at a p.0) (line_at b p.1)) (zip xs ys) ≡ all_same (lines_at a xs) (lines_at b ys)
  unfolding all_same lines_at
  all_zip [] [] h = refl
  all_zip [] (y ∷ ys) h = absurd (omega (arith, h))
  all_zip (x ∷ xs) [] h = absurd (omega (arith, h))
  all_zip (x ∷ xs) (y ∷ ys) h = rw (all_zip xs ys (omega (arith, h)))

  pub other_length : (xs ys : List ℕ) → (length xs ≡ length ys → ⊥) → eqb (length xs) (length ys) ≡ all_same (lines_at a xs) (lines_at b ys)
  unfolding lines_at
  other_length xs ys h = rw (ne_eqb (length xs) (length ys) h) (at (all_same (lines_at a xs) (lines_at b ys)) refl)
    where
      at : (t : Bool) → all_same (lines_at a xs) (lines_at b ys) ≡ t → false ≡ t
      at false e = refl
      at true e = absurd (h (sym (length-map xs (line_at a)) ∙ ap length (all_same_eq _ _ e) ∙ length-map ys (line_at b)))

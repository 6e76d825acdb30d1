-- The lines that a part of the starts names.
use Prim.Native.Nat.{ℕ, suc, ◌+◌, ◌-◌, ◌≤◌, ◌<◌}
use native.Mathlib.Omega.{arith}
use native.Mathlib.Numerals.{add-one}
use mathlib.Core.Path.{◌≡◌, ap, ◌∙◌}
use mathlib.Core.List.{List, [], ◌∷◌, ◌++◌}
use lib.ListN.{length, get_or, take, drop, drop_of_length-le, length-take, length-map}
use lib.Seq.{slice, slice-cons, length-slice, take-suc, drop-append-le}
use Rattle.basics.specs.Text.{Text}
use Rattle.command_lines.specs.Lines.{line_at}
use Rattle.live_lines.specs.LiveLines.{lines_at}
use Rattle.live_lines.proofs.Living.{lines_snoc}
use Rattle.level_lines.specs.LevelLines.{lines_in}

module _ (s : Text) (starts : List ℕ) where
  pub part_cons : (f t : ℕ) → f < t → t ≤ length starts → lines_in s starts f t ≡ line_at s (get_or starts f 0) ∷ lines_in s starts (f + 1) t
  unfolding lines_in lines_at
  part_cons f t h l = rw (slice-cons f t starts 0 h l, add-one f)

  pub part_end : (f t : ℕ) → t ≤ f → lines_in s starts f t ≡ []
  unfolding lines_in lines_at
  part_end f t h = let e : drop f (take t starts) ≡ [] = drop_of_length-le (take t starts) {i = f} (omega (arith, length-take t starts)) in rw e

  pub part_length : (f t : ℕ) → t ≤ length starts → length (lines_in s starts f t) ≡ t - f
  unfolding lines_in lines_at
  part_length f t h = length-map (slice f t starts) (line_at s) ∙ length-slice f t starts h

  pub part_snoc : (f t : ℕ) → f ≤ t → t < length starts → lines_in s starts f (suc t) ≡ lines_in s starts f t ++ (line_at s (get_or starts t 0) ∷ [])
  unfolding lines_in
  part_snoc f t h l =
      let e : drop f (take (suc t) starts) ≡ drop f (take t starts) ++ (get_or starts t 0 ∷ []) =
      rw (take-suc starts t 0 l) (drop-append-le f (take t starts) (get_or starts t 0 ∷ []) (omega (arith, length-take t starts))) in
      ap (lines_at s) e ∙ lines_snoc s (drop f (take t starts)) (get_or starts t 0)

-- Two stacks compared, from the last level down.
use Rattle.std.specs.Prelude.{Option, Some, None, is_some, unwrap_or, if◌then◌else◌}
use Prim.Native.Nat.{ℕ, zero, suc, ◌+◌}
use native.Mathlib.Omega.{arith}
use native.Mathlib.Numerals.{add-one}
use mathlib.Core.Path.{◌≡◌, refl, sym, ap, ◌∙◌}
use mathlib.Core.Bool.{Bool, true, false, true≢false, false≢true}
use mathlib.Core.List.{List}
use lib.ListN.{length, take, drop}
use lib.Seq.{take-length}
use Rattle.basics.specs.Text.{Text}
use Rattle.smt_engines.specs.Reader.{Stack, first, over}
use Rattle.live_lines.specs.LiveLines.{lines_at, push_at, last_push, push_place}
use Rattle.live_lines.proofs.Popping.{last-place}
use Rattle.level_lines.specs.AsOften.{as_often, same_levels}
use Rattle.level_lines.specs.LevelLines.{lines_in, stack_of, has_push}
use Rattle.level_lines.proofs.Stacks.{View, flat, tall, view, stack_front}

module _ (s : Text) (starts : List ℕ) where
  has-place : (n : ℕ) → has_push s starts n ≡ is_some (push_place s starts n)
  unfolding has_push push_place
  has-place zero = refl
  has-place (suc k) = at (push_at s starts k) (has-place k)
    where
      at : (x : Bool) → has_push s starts k ≡ is_some (push_place s starts k) → (if x then true else has_push s starts k) ≡ is_some (if x then Some k else push_place s starts k)
      at true e = refl
      at false e = e

  -- a stack of one level, and one of more
  pub one_level : {r : Option ℕ} → r ≡ push_place s starts (length starts) → r ≡ None → stack_of s starts (length starts) ≡ first (lines_at s starts)
  unfolding lines_in
  one_level e t = by (view s starts (length starts) (omega arith))
    where
      by : View s starts (length starts) → stack_of s starts (length starts) ≡ first (lines_at s starts)
      by (flat p st g) = st ∙ ap (λ (l : List ℕ). first (lines_at s l)) (take-length starts)
      by (tall p st m g) = absurd (false≢true (ap is_some (sym t ∙ e) ∙ sym (has-place (length starts)) ∙ p))

  pub more_levels : {r : Option ℕ} (k : ℕ) {below level : List ℕ} → r ≡ push_place s starts (length starts) → r ≡ Some k → below ≡ take k starts → level ≡ drop (k + 1) starts
      → stack_of s starts (length starts) ≡ over (lines_at s level) (stack_of s below (length below))
  unfolding lines_in
  more_levels k {below} {level} e t u v = by (view s starts (length starts) (omega arith))
    where
      by : View s starts (length starts) → stack_of s starts (length starts) ≡ over (lines_at s level) (stack_of s below (length below))
      by (flat p st g) = absurd (true≢false (ap is_some (sym t ∙ e) ∙ sym (has-place (length starts)) ∙ p))
      by (tall p st m g) =
          let q : last_push s starts (length starts) ≡ k = last-place s starts (length starts) ∙ ap (λ (o : Option ℕ). unwrap_or o 0) (sym e ∙ t) in
          rw (u, v, stack_front s starts k (omega (arith, q, m))) (st ∙ rw (q, add-one k, take-length starts))

-- ---- level after level
abbrev pub Level : (st su sv sw : Stack) → Type 0
Level st su sv sw = same_levels st su ≡ same_levels sv sw

module _ (sv sw st su : Stack) (c : Level sv sw st su) where
  pub level_more : {l m : List Text} {sx sy : Stack} {r : Bool} → st ≡ over l sx → su ≡ over m sy → r ≡ as_often l m → r ≡ true → Level sv sw sx sy
  unfolding same_levels
  level_more p q e t = c ∙ rw (p, q, sym e ∙ t)

  pub level_stop : {l m : List Text} {sx sy : Stack} {r : Bool} → st ≡ over l sx → su ≡ over m sy → r ≡ as_often l m → r ≡ false → false ≡ same_levels sv sw
  unfolding same_levels
  level_stop p q e t = sym (c ∙ rw (p, q, sym e ∙ t))

  pub level_lower : {l m : List Text} {sx : Stack} → st ≡ over l sx → su ≡ first m → false ≡ same_levels sv sw
  unfolding same_levels
  level_lower p q = sym (c ∙ rw (p, q))

  pub level_higher : {l m : List Text} {sy : Stack} → st ≡ first l → su ≡ over m sy → false ≡ same_levels sv sw
  unfolding same_levels
  level_higher p q = sym (c ∙ rw (p, q))

  pub level_first : {l m : List Text} {r : Bool} → st ≡ first l → su ≡ first m → r ≡ as_often l m → r ≡ same_levels sv sw
  unfolding same_levels
  level_first p q e = e ∙ sym (c ∙ rw (p, q))

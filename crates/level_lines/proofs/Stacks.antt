-- The stack that live lines leave, by its last level and what is below it.
use Prim.Native.Nat.{ℕ, zero, suc, ◌≤◌, ◌<◌}
use native.Mathlib.Omega.{arith}
use native.Mathlib.Decide.{dec_lt}
use mathlib.Core.Path.{◌≡◌, refl, sym, ap, ◌∙◌}
use mathlib.Core.Bool.{Bool, true, false}
use mathlib.Core.List.{List, [], ◌∷◌, ◌++◌}
use lib.ListN.{length, get_or, take}
use lib.Seq.{take-suc}
use Rattle.basics.specs.Text.{Text, same}
use Rattle.basics.specs.Lists.{all}
use Rattle.basics.proofs.Bool.{and_both}
use Rattle.smt_engines.specs.SmtEngines.{CMD_PUSH}
use Rattle.smt_engines.specs.Reader.{Stack, first, over, join, Reader, live, hear_kind, hear, hear_all}
use Rattle.command_lines.specs.Lines.{line_at}
use Rattle.live_lines.specs.LiveLines.{push_at, lines_at, last_push, is_live, Lives}
use Rattle.live_lines.proofs.Living.{live_is, hear_snoc, all_snoc, lines_snoc, Told, push, joined, told}
use Rattle.live_lines.proofs.Popping.{last_below, front_alone}
use Rattle.level_lines.specs.LevelLines.{lines_in, grown, stack_of, has_push}
use Rattle.level_lines.proofs.Parts.{part_snoc, part_end}

module _ (s : Text) (starts : List ℕ) where
  -- one level, or a level over the stack below the last push
  pub data View (n : ℕ) : Type 0 where
    flat : has_push s starts n ≡ false → stack_of s starts n ≡ first (lines_in s starts 0 n) → (last_push s starts n < n → push_at s starts (last_push s starts n) ≡ false) → View n
    tall : has_push s starts n ≡ true → stack_of s starts n ≡ over (lines_in s starts (suc (last_push s starts n)) n) (stack_of s starts (last_push s starts n))
        → last_push s starts n < n → push_at s starts (last_push s starts n) ≡ true → View n

  -- the first n alone leave what the first n of more leave
  pub stack_front : (n : ℕ) → n ≤ length starts → stack_of s (take n starts) (length (take n starts)) ≡ stack_of s starts n
  unfolding stack_of
  stack_front = front_alone (stack_of s) (λ k start st. grown (same (line_at s start) CMD_PUSH) (line_at s start) st) (λ xs ys. refl) (λ xs k. refl) starts

  last-push : (k : ℕ) → push_at s starts k ≡ true → last_push s starts (suc k) ≡ k
  unfolding last_push
  last-push k e = rw e

  last_other : (k : ℕ) → push_at s starts k ≡ false → last_push s starts (suc k) ≡ last_push s starts k
  unfolding last_push
  last_other k e = rw e

  pub view : (n : ℕ) → n ≤ length starts → View n
  unfolding has_push stack_of grown join
  view zero h = flat refl (ap first (sym (part_end s starts 0 0 (omega arith)))) (λ l. absurd (omega arith))
  view (suc k) h = at (push_at s starts k) refl (view k (omega arith))
    where
      at : (x : Bool) → push_at s starts k ≡ x → View k → View (suc k)
      at true e v =
          let q = last-push k e in
          tall (rw e) (rw (q, e, part_end s starts (suc k) (suc k) (omega arith))) (omega (arith, q)) (ap (push_at s starts) q ∙ e)
      at false e (flat p st g) =
          let q = last_other k e in
          flat (rw e p) (rw (e, st) (ap first (sym (part_snoc s starts 0 k (omega arith) (omega arith)))))
          (λ l. ap (push_at s starts) q ∙ low (dec_lt (last_push s starts k) k))
        where
          low : Dec (last_push s starts k < k) → push_at s starts (last_push s starts k) ≡ false
          low (yes l) = g l
          low (no l) = let z : last_push s starts k ≡ k = omega (arith, last_below s starts k) in ap (push_at s starts) z ∙ e
      at false e (tall p st l g) =
          let q = last_other k e in
          tall (rw e p)
          (rw (q, e, st) (ap {B = Stack} (λ m. over m (stack_of s starts (last_push s starts k))) (sym (part_snoc s starts (suc (last_push s starts k)) k (omega arith) (omega arith)))))
          (omega (arith, q)) (ap (push_at s starts) q ∙ g)

  -- what the starts leave, by the reader
  pub heard_stack : (n : ℕ) → n ≤ length starts → all (lines_at s (take n starts)) is_live ≡ true → hear_all (live (first [])) (lines_at s (take n starts)) ≡ live (stack_of s starts n)
  unfolding hear_all hear hear_kind lines_at stack_of grown
  heard_stack zero h a = refl
  heard_stack (suc k) h a =
      let x = line_at s (get_or starts k 0) in
      let apart : lines_at s (take (suc k) starts) ≡ lines_at s (take k starts) ++ (x ∷ []) = ap (lines_at s) (take-suc starts k 0 (omega arith)) ∙ lines_snoc s (take k starts) (get_or starts k 0) in
      let both = and_both (all (lines_at s (take k starts)) is_live) (is_live x) (sym (all_snoc (lines_at s (take k starts)) x) ∙ ap {B = Bool} (λ ls. all ls is_live) (sym apart) ∙ a) in
      ap (hear_all (live (first []))) apart ∙ hear_snoc (live (first [])) (lines_at s (take k starts)) x
      ∙ ap {B = Reader} (λ r. hear r x) (heard_stack k (omega arith) both.0) ∙ by (told x both.1)
    where
      by : Told (line_at s (get_or starts k 0)) → hear (live (stack_of s starts k)) (line_at s (get_or starts k 0)) ≡ live (grown (push_at s starts k) (line_at s (get_or starts k 0)) (stack_of s starts k))
      by (push p e) = rw (p, e)
      by (joined p e) = rw (p, e)

  pub lives_stack : {n at : ℕ} {st : Stack} → Lives s starts n at st → st ≡ stack_of s starts n
  lives_stack {n} l = live_is (sym l.heard ∙ heard_stack n l.held l.lines)

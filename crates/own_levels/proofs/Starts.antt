-- The lines of our text, one start after the other.
use Prim.Native.Nat.{ℕ, suc, ◌+◌, ◌≤◌, ◌<◌}
use native.Mathlib.Numerals.{add-one}
use native.Mathlib.Omega.{arith}
use mathlib.Core.Path.{◌≡◌, refl, sym, ap, ◌∙◌, subst}
use mathlib.Core.Bool.{Bool, true}
use mathlib.Core.List.{List}
use lib.Dec.{leb}
use lib.ListN.{length, take, drop, set, length-set}
use borrow.Author.Tests.{leb-true}
use Rattle.basics.specs.Text.{Text, same}
use Rattle.basics.specs.Lists.{all}
use Rattle.basics.proofs.Bool.{and_both}
use Rattle.smt_engines.specs.SmtEngines.{CMD_PUSH}
use Rattle.smt_engines.specs.Reader.{cut, Stack, Reader, live, hear_kind, hear, hear_all, read}
use Rattle.command_lines.specs.Lines.{line_at, line_end}
use Rattle.command_lines.proofs.Cutting.{cut_behind, cut_at, hear_at}
use Rattle.live_lines.specs.LiveLines.{least_line, places, is_live, Lives}
use Rattle.live_lines.proofs.Living.{live_is, Told, push, joined, told, lives_more, lives_none, lives_room}
use Rattle.level_lines.specs.AsOften.{same_levels}
use Rattle.level_lines.specs.LevelLines.{grown, stack_of}
use Rattle.level_lines.proofs.Stacks.{stack_front, lives_stack}
use Rattle.own_levels.specs.OwnLevels.{is_kept, OwnText, Started}

-- the first n starts name the lines up to a place; those behind it leave the rest
pub record Walk (own : Text) (starts : List ℕ) (n at : ℕ) : Type 0 where
  pub lives : Lives own starts n at (stack_of own starts n)
  pub rest : hear_all (live (stack_of own starts n)) (cut (drop at own)) ≡ read own
  pub kept : all (cut (drop at own)) is_kept ≡ true

hear_grown : (st : Stack) (x : Text) → is_live x ≡ true → hear (live st) x ≡ live (grown (same x CMD_PUSH) x st)
unfolding hear hear_kind grown
hear_grown st x h = by (told x h)
  where
    by : Told x → hear (live st) x ≡ live (grown (same x CMD_PUSH) x st)
    by (push p e) = rw (p, e)
    by (joined p e) = rw (p, e)

pub walk_none : (own : Text) (starts : List ℕ) → OwnText own → Walk own starts 0 0
unfolding stack_of read
walk_none own starts o = record { lives = lives_none own starts; rest = refl; kept = o.kept }

module _ {own : Text} {starts : List ℕ} {n at : ℕ} (w : Walk own starts n at) where
  -- there is a place for one more
  pub walk_room : OwnText own → length starts ≡ places → at < length own → n < length starts
  walk_room o l h = omega (arith, lives_room w.lives (omega (arith, o.short)))

  walk_more : n < length starts → at < length own → Walk own (set starts n at) (suc n) (suc (line_end own at))
  unfolding all is_kept
  walk_more room h =
      let x = line_at own at in
      let next = cut (drop (suc (line_end own at)) own) in
      let st = stack_of own starts n in
      let su = grown (same x CMD_PUSH) x st in
      let both = and_both (is_kept x) (all next is_kept) (ap {B = Bool} (λ ls. all ls is_kept) (sym (cut_at own at h)) ∙ w.kept) in
      let one = and_both (is_live x) (leb least_line (suc (length x))) both.0 in
      let heard : hear (live st) x ≡ live su = hear_grown st x one.0 in
      let more : Lives own (set starts n at) (suc n) (suc (line_end own at)) su =
      lives_more own starts n at room one.0 (leb-true least_line (suc (length x)) one.1) st su w.lives heard in
      let is : su ≡ stack_of own (set starts n at) (suc n) = lives_stack own (set starts n at) more in
      record {
        lives = subst (Lives own (set starts n at) (suc n) (suc (line_end own at))) is more;
        rest =
            ap {B = Reader} (λ s. hear_all (live s) next) (sym is) ∙ ap {B = Reader} (λ r. hear_all r next) (sym heard)
            ∙ sym (hear_at (live st) own at h) ∙ w.rest;
        kept = both.1;
      }

  -- one turn of the loop
  pub walk_turn : {later : List ℕ} {m e : ℕ} → OwnText own → length starts ≡ places → at < length own → m ≡ n + 1 → later ≡ set starts n at → e ≡ suc (line_end own at)
      → Walk own later m e × (length later ≡ places)
  walk_turn o l h count set_at end =
      rw (count, set_at, end, add-one n) (walk_more (walk_room o l h) h, length-set starts n at ∙ l)

  pub walk_done : length own ≤ at → Started own starts n
  unfolding hear_all
  walk_done h = record { held = w.lives.held; levels = sym w.rest ∙ ap (hear_all (live (stack_of own starts n))) (cut_behind own at h) }

-- what is compared with the starts' levels is compared with the text's
pub text_same : {own : Text} {starts : List ℕ} {n : ℕ} {r : Bool} (st : Stack) → Started own starts n → r ≡ same_levels st (stack_of own (take n starts) (length (take n starts)))
    → (su : Stack) → read own ≡ live su → r ≡ same_levels st su
text_same {own} {starts} {n} st s e su h = e ∙ ap (same_levels st) (stack_front own starts n s.held ∙ live_is (sym s.levels ∙ h))

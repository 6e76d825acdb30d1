-- A script that is read up to a place: the verdict on the rest decides.
use Prim.Native.Nat.{ℕ, suc, ◌+◌, ◌≤◌, ◌<◌}
use native.Mathlib.Omega.{arith}
use native.Mathlib.Numerals.{add-one}
use mathlib.Core.Path.{◌≡◌, refl, sym, ap, ◌∙◌, subst}
use mathlib.Core.Bool.{Bool, true, false}
use mathlib.Core.List.{List, [], ◌∷◌}
use lib.ListN.{length, take, drop}
use lib.Seq.{drop-cons}
use Rattle.basics.specs.Text.{Text, same}
use Rattle.book.specs.Book.{Book}
use Rattle.smt_engines.specs.SmtEngines.{CMD_CHECK_SAT}
use Rattle.smt_engines.specs.Reader.{cut, Stack, first, live, read}
use Rattle.command_lines.specs.Lines.{line_at, line_end}
use Rattle.command_lines.specs.CommandLines.{is_command}
use Rattle.command_lines.proofs.Cutting.{cut_behind}
use Rattle.command_lines.proofs.Reading.{check_length}
use Rattle.script_checks.specs.ScriptChecks.{noted, checks_from, checks, is_foreign, foreign_from}
use Rattle.script_checks.proofs.Steps.{Stepped, step}
use Rattle.live_lines.specs.LiveLines.{places, Lives, Heard}
use Rattle.live_lines.proofs.Living.{lives_none, lives_room}
use Rattle.level_lines.specs.AsOften.{same_levels}
use Rattle.level_lines.specs.LevelLines.{stack_of}
use Rattle.level_lines.specs.Bytes.{total, stack_bytes}
use Rattle.level_lines.proofs.Stacks.{stack_front, lives_stack}
use Rattle.level_lines.proofs.Bytes.{hear_bytes}
use Rattle.question_lists.specs.Questions.{questions_of, question_at, stack_for}
use Rattle.std.specs.Prelude.{Option, Some, None}
use Rattle.std.proofs.lemmas.Option.{same_Some, none-some}
use Rattle.audit.specs.Audit.{differs_at, agreeing, verdict, verdict_value}
use Rattle.audit.specs.Comparable.{Comparable, Before, stepped, step_at}

pub record Midway (b : Book) (ns : List ℕ) (s : Text) (starts : List ℕ) (n at k : ℕ) : Type 0 where
  stack : Stack
  lives : Lives s starts n at stack
  bytes : stack_bytes stack ≤ at
  ours : foreign_from s at stack ≡ false
  count : k + length (checks_from (live stack) (cut (drop at s))) ≡ length (questions_of ns)
  decides :
      verdict 1 (agreeing b (checks s) (questions_of ns)) ≡ verdict (suc k) (agreeing b (checks_from (live stack) (cut (drop at s))) (drop k (questions_of ns)))
  pub few : k ≤ at

module _ (b : Book) (ns : List ℕ) (s : Text) (c : Comparable b ns s) where
  pub midway_start : (starts : List ℕ) → Midway b ns s starts 0 0 0
  unfolding is_foreign foreign_from read checks stack_bytes total
  midway_start starts =
      record {
        stack = first [];
        lives = lives_none s starts;
        bytes = omega arith;
        ours = c.ours;
        count = omega (arith, c.even);
        decides = refl;
        few = omega arith;
      }

  module _ {starts : List ℕ} {n at k : ℕ} (m : Midway b ns s starts n at k) where
    pub midway_done : length s ≤ at → verdict_value None ≡ verdict 1 (agreeing b (checks s) (questions_of ns))
    unfolding verdict_value checks_from agreeing verdict
    midway_done l = sym (m.decides ∙ rw (cut_behind s at l))

    -- the step that the slice tells
    pub midway_step : step_at b ns s (take n starts) (length (take n starts)) at k ≡ step_at b ns s starts n at k
    unfolding step_at
    midway_step = rw (stack_front s starts n m.lives.held)

    -- at a line
    module _ (h : at < length s) where
      next : Stepped s at m.stack
      next = step s at h m.stack m.ours

      pub midway_ours : is_command (line_at s at) ≡ true
      midway_ours = next.command

      pub midway_room : length starts ≡ places → n < length starts
      midway_room l = omega (arith, lives_room m.lives (omega (arith, c.taken.short)))

      -- the check-sats from here on, with this one in front
      check_here : same (line_at s at) CMD_CHECK_SAT ≡ true
          → checks_from (live m.stack) (cut (drop at s)) ≡ m.stack ∷ checks_from (live next.stack) (cut (drop (suc (line_end s at)) s))
      unfolding noted
      check_here e = rw e at next.checks

      no_check : same (line_at s at) CMD_CHECK_SAT ≡ false
          → checks_from (live m.stack) (cut (drop at s)) ≡ checks_from (live next.stack) (cut (drop (suc (line_end s at)) s))
      unfolding noted
      no_check e = rw e at next.checks

      one_more : same (line_at s at) CMD_CHECK_SAT ≡ true → k < length (questions_of ns)
      one_more e =
          let l : k + suc (length (checks_from (live next.stack) (cut (drop (suc (line_end s at)) s)))) ≡ length (questions_of ns) =
          ap (λ (l : List Stack). k + length l) (sym (check_here e)) ∙ m.count in
          omega (arith, l)

      -- of the first n starts, as a slice
      pub midway_before : Before b ns s (take n starts) (length (take n starts)) at k
      unfolding line_end
      midway_before =
          record {
            promise = c.taken.promise;
            inside = c.taken.inside;
            held = omega arith;
            few = rw (stack_front s starts n m.lives.held) (rw (lives_stack s starts m.lives) at m.bytes);
            counted = omega (arith, m.few, c.taken.short);
            asked = λ e. (one_more e, omega (arith, check_length (line_at s at) e, next.inside, c.taken.short));
          }

      -- the verdict at a check-sat
      at_check : same (line_at s at) CMD_CHECK_SAT ≡ true → (x : Bool) → same_levels m.stack (stack_for b (question_at (questions_of ns) k)) ≡ x
          → verdict 1 (agreeing b (checks s) (questions_of ns))
          ≡ verdict (suc k) (x ∷ agreeing b (checks_from (live next.stack) (cut (drop (suc (line_end s at)) s))) (drop (suc k) (questions_of ns)))
      unfolding agreeing question_at
      at_check e x a = m.decides ∙ rw (check_here e, drop-cons (questions_of ns) k (record { node = 0; goal = 0 }) (one_more e), a)

      levels_here : (x : Bool) → same_levels (stack_of s starts n) (stack_for b (question_at (questions_of ns) k)) ≡ x
          → same_levels m.stack (stack_for b (question_at (questions_of ns) k)) ≡ x
      levels_here x a = ap (λ (st : Stack). same_levels st (stack_for b (question_at (questions_of ns) k))) (lives_stack s starts m.lives) ∙ a

      -- the line is heard
      module _ {later : List ℕ} {p : ℕ} (g : Heard s at starts later n p) where
        on : (j : ℕ) → j ≤ suc at
            → j + length (checks_from (live next.stack) (cut (drop (suc (line_end s at)) s))) ≡ length (questions_of ns)
            → verdict 1 (agreeing b (checks s) (questions_of ns))
            ≡ verdict (suc j) (agreeing b (checks_from (live next.stack) (cut (drop (suc (line_end s at)) s))) (drop j (questions_of ns)))
            → Midway b ns s later p (suc (line_end s at)) j
        unfolding line_end
        on j few count decides =
            record {
              stack = next.stack;
              lives = g.lives m.stack next.stack m.lives next.heard;
              bytes = omega (arith, m.bytes, hear_bytes m.stack next.stack (line_at s at) next.heard);
              ours = next.ours;
              count = count;
              decides = decides;
              few = omega arith;
            }

        pub midway_on : {j : ℕ} {r : Option ℕ} → r ≡ step_at b ns s starts n at k → r ≡ Some j → Midway b ns s later p (suc (line_end s at)) j
        unfolding step_at stepped verdict
        midway_on {j} e o = by (same (line_at s at) CMD_CHECK_SAT) refl (same_levels (stack_of s starts n) (stack_for b (question_at (questions_of ns) k))) refl (sym e ∙ o)
          where
            by : (x : Bool) → same (line_at s at) CMD_CHECK_SAT ≡ x
                → (y : Bool) → same_levels (stack_of s starts n) (stack_for b (question_at (questions_of ns) k)) ≡ y
                → stepped x y k ≡ Some j → Midway b ns s later p (suc (line_end s at)) j
            by false q y a z =
                let i : k ≡ j = same_Some k j z in
                subst (λ (j : ℕ). Midway b ns s later p (suc (line_end s at)) j) i
                (on k (omega (arith, m.few)) (rw (no_check q) at m.count) (rw (no_check q) at m.decides))
            by true q true a z =
                let i : suc k ≡ j = same_Some (suc k) j z in
                subst (λ (j : ℕ). Midway b ns s later p (suc (line_end s at)) j) i
                (on (suc k) (omega (arith, m.few)) (omega (arith, m.count, ap length (check_here q))) (at_check q true (levels_here true a)))
            by true q false a z = absurd (none-some j z)

      pub midway_stop : {r : Option ℕ} → r ≡ step_at b ns s starts n at k → r ≡ None
          → verdict_value (Some (k + 1)) ≡ verdict 1 (agreeing b (checks s) (questions_of ns))
      unfolding step_at stepped verdict_value verdict
      midway_stop e o = by (same (line_at s at) CMD_CHECK_SAT) refl (same_levels (stack_of s starts n) (stack_for b (question_at (questions_of ns) k))) refl (sym e ∙ o)
        where
          by : (x : Bool) → same (line_at s at) CMD_CHECK_SAT ≡ x
              → (y : Bool) → same_levels (stack_of s starts n) (stack_for b (question_at (questions_of ns) k)) ≡ y
              → stepped x y k ≡ None → differs_at (k + 1) ≡ verdict 1 (agreeing b (checks s) (questions_of ns))
          by false q y a z = absurd (none-some k (sym z))
          by true q true a z = absurd (none-some (suc k) (sym z))
          by true q false a z = rw (add-one k) (sym (at_check q false (levels_here false a)))

  -- the place as the code counts it
  pub midway_next : (at : ℕ) {starts : List ℕ} {n k e : ℕ} → e ≡ suc (line_end s at) → Midway b ns s starts n (suc (line_end s at)) k → Midway b ns s starts n e k
  midway_next at q m = rw q m

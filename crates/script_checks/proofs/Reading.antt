-- A script that is read up to a place: the rest decides, with the stack and the count that are left.
use Prim.Native.Nat.{ℕ, zero, suc, ◌+◌, ◌≤◌, ◌<◌}
use native.Mathlib.Omega.{arith}
use native.Mathlib.Numerals.{add-one}
use mathlib.Core.Path.{◌≡◌, refl, sym, ap, ◌∙◌}
use mathlib.Core.Bool.{Bool, true, false, not, ◌||◌, or-true}
use mathlib.Core.List.{List, [], ◌∷◌}
use lib.ListN.{length, drop, length-append, drop_of_length-le}
use Rattle.basics.specs.Text.{Text}
use Rattle.basics.specs.Lists.{all}
use Rattle.smt_engines.specs.Reader.{cut, Stack, first, over, height, Reader, live, lost, join, dropped, hear_kind, hear, hear_all, read}
use Rattle.command_lines.specs.declared.kinds.LineKind.{LineKind}
use Rattle.command_lines.specs.declared.kinds.LineKind.TheVariants.{Push, Pop, CheckSat, GetModel, Joins, Foreign}
use Rattle.command_lines.specs.Lines.{line_at, line_end}
use Rattle.command_lines.specs.CommandLines.{is_command, ended, line_kind, heard_as, is_ours}
use Rattle.command_lines.proofs.Cutting.{cut_at, cut_behind, hear_at, end_short, ended_at}
use Rattle.command_lines.proofs.Reading.{heard-as, is-ours, is_check, check_by}
use Rattle.std.specs.Prelude.{Option, Some, None}
use Rattle.std.proofs.lemmas.Option.{same_Some, none-some}
use Rattle.script_checks.specs.declared.Met.{Met}
use Rattle.script_checks.specs.ScriptChecks.{is_lost, noted, checks_from, checks, is_foreign, foreign_from, answered, check_count}
use Rattle.script_checks.specs.Turns.{lower, turned}

pub record Upto (s : Text) (at : ℕ) (met : Met) : Type 0 where
  stack : Stack
  tall : height stack ≡ suc met.depth
  foreign : is_foreign s ≡ foreign_from s at stack
  count : length (checks s) ≡ met.checks + length (checks_from (live stack) (cut (drop at s)))
  pub few : (met.checks ≤ at) × (met.depth ≤ at)

pub upto_none : (s : Text) → Upto s 0 (record { depth = 0; checks = 0 })
unfolding is_foreign foreign_from read checks height
upto_none s = record { stack = first []; tall = refl; foreign = refl; count = omega arith; few = (omega arith, omega arith) }

lost_all : (ls : List Text) → hear_all lost ls ≡ lost
unfolding hear_all hear
lost_all [] = refl
lost_all (l ∷ ls) = lost_all ls

join_height : (st : Stack) (ls : List Text) → height (join st ls) ≡ height st
unfolding height join
join_height (first l) ls = refl
join_height (over l st) ls = refl

over_height : (l : List Text) (st : Stack) → height (over l st) ≡ suc (height st)
unfolding height
over_height l st = refl

-- ---- a pop
record Under (st : Stack) (depth n : ℕ) (met : Met) : Type 0 where
  below : Stack
  drops : dropped st ≡ live below
  left : height below ≡ suc met.depth
  same : n ≡ met.checks
  less : met.depth ≤ depth

under : (st : Stack) (depth n : ℕ) {met : Met} → height st ≡ suc depth → lower depth n ≡ Some met → Under st depth n met
unfolding height dropped lower
under st zero n {met} t z = absurd (none-some met z)
under (first l) (suc depth) n t z = absurd (omega (arith, t))
under (over l st) (suc depth) n {met} t z =
    let e = same_Some _ met z in
    let i : depth ≡ met.depth = ap (λ (m : Met). m.depth) e in
    record { below = st; drops = refl; left = omega (arith, t, i); same = ap (λ (m : Met). m.checks) e; less = omega (arith, i) }

sunk : (st : Stack) (depth n : ℕ) → height st ≡ suc depth → lower depth n ≡ None → dropped st ≡ lost
unfolding height dropped lower
sunk (first l) depth n t z = refl
sunk (over l st) zero n t z = absurd (by st (omega (arith, t)))
  where
    by : (st : Stack) → height st ≡ 0 → ⊥
    by (first l) e = omega (arith, e)
    by (over l st) e = omega (arith, e)
sunk (over l st) (suc depth) n t z = absurd (none-some _ (sym z))

module _ (s : Text) (at : ℕ) (h : at < length s) where
  -- the last line has no end
  pub not_ended : (st : Stack) → length s ≤ line_end s at → foreign_from s at st ≡ true
  unfolding foreign_from
  not_ended st l = by (ended (drop at s)) refl
    where
      by : (x : Bool) → ended (drop at s) ≡ x → (not x || not (all (cut (drop at s)) is_command) || is_lost (hear_all (live st) (cut (drop at s)))) ≡ true
      by true e = absurd (omega (arith, end_short s at e h))
      by false e = refl

  module _ (l : line_end s at < length s) where
    next : ℕ
    next = suc (line_end s at)

    -- a line that is none of ours
    pub foreign_line : (st : Stack) → is_command (line_at s at) ≡ false → foreign_from s at st ≡ true
    unfolding foreign_from all
    foreign_line st e = rw (cut_at s at h, e) (by (not (ended (drop at s))) _)
      where
        by : (a b : Bool) → (a || true || b) ≡ true
        by true b = refl
        by false b = refl

    -- a line of ours
    pub ours_line : (st : Stack) (r : Reader) → is_command (line_at s at) ≡ true → hear (live st) (line_at s at) ≡ r
        → foreign_from s at st ≡ (not (ended (drop (suc (line_end s at)) s)) || not (all (cut (drop (suc (line_end s at)) s)) is_command) || is_lost (hear_all r (cut (drop (suc (line_end s at)) s))))
    unfolding foreign_from all
    ours_line st r e q = rw (hear_at (live st) s at h, q, cut_at s at h, e, ended_at s at h l)

    pub lost_line : (st : Stack) → is_command (line_at s at) ≡ true → hear (live st) (line_at s at) ≡ lost → foreign_from s at st ≡ true
    unfolding is_lost
    lost_line st e q = ours_line st lost e q ∙ rw (lost_all (cut (drop (suc (line_end s at)) s))) (by (not (ended (drop (suc (line_end s at)) s))) (not (all (cut (drop (suc (line_end s at)) s)) is_command)))
      where
        by : (a b : Bool) → (a || b || true) ≡ true
        by true b = refl
        by false b = or-true b

    count_line : (st : Stack) (r : Reader) → hear (live st) (line_at s at) ≡ r
        → length (checks_from (live st) (cut (drop at s))) ≡ length (noted (is_check (line_kind (line_at s at))) (live st)) + length (checks_from r (cut (drop (suc (line_end s at)) s)))
    unfolding checks_from
    count_line st r q =
        rw (cut_at s at h, q, check_by (line_at s at))
        (length-append (noted (is_check (line_kind (line_at s at))) (live st)) (checks_from r (cut (drop (suc (line_end s at)) s))))

    heard : (st : Stack) (k : LineKind) → line_kind (line_at s at) ≡ k → hear (live st) (line_at s at) ≡ hear_kind (heard_as k) (line_at s at) st
    unfolding hear
    heard st k e = ap {B = Reader} (λ j. hear_kind j (line_at s at) st) (heard-as (line_at s at) ∙ ap heard_as e)

    ours : (k : LineKind) → line_kind (line_at s at) ≡ k → is_command (line_at s at) ≡ is_ours k
    ours k e = is-ours (line_at s at) ∙ ap is_ours e

    -- one line on
    module _ {now : Met} (u : Upto s at now) where
      on : (k : LineKind) → line_kind (line_at s at) ≡ k → is_ours k ≡ true → (su : Stack) → hear_kind (heard_as k) (line_at s at) u.stack ≡ live su
          → (met : Met) → height su ≡ suc met.depth → met.checks ≡ now.checks + length (noted (is_check k) (live u.stack)) → met.checks ≤ suc at → met.depth ≤ suc at → Upto s (suc (line_end s at)) met
      unfolding line_end foreign_from
      on k e o su q met t c few deep =
          let r = heard u.stack k e ∙ q in
          let step : length (checks_from (live u.stack) (cut (drop at s))) ≡ length (noted (is_check k) (live u.stack)) + length (checks_from (live su) (cut (drop (suc (line_end s at)) s))) = rw (ap is_check e) at (count_line u.stack (live su) r) in
          record {
            stack = su;
            tall = t;
            foreign = u.foreign ∙ ours_line u.stack (live su) (ours k e ∙ o) r;
            count = omega (arith, u.count, step, c);
            few = (omega arith, omega arith);
          }

      -- by the line's kind
      pub go_on : {met : Met} {k : LineKind} {r : Option Met} → k ≡ line_kind (line_at s at) → r ≡ turned k now → r ≡ Some met → Upto s (suc (line_end s at)) met
      unfolding turned heard_as is_ours hear_kind is_check noted
      go_on {met} {k} {r} e t o = by k (sym e) (sym t ∙ o)
        where
          by : (k : LineKind) → line_kind (line_at s at) ≡ k → turned k now ≡ Some met → Upto s (suc (line_end s at)) met
          by LineKind.Push q z =
              let x = same_Some _ met z in
              let i : suc now.depth ≡ met.depth = ap (λ (m : Met). m.depth) x in
              let j : now.checks ≡ met.checks = ap (λ (m : Met). m.checks) x in
              on Push q refl (over [] u.stack) refl met (omega (arith, over_height [] u.stack, u.tall, i)) (omega (arith, j)) (omega (arith, j, u.few.0)) (omega (arith, i, u.few.1))
          by LineKind.Pop q z =
              let w = under u.stack now.depth now.checks u.tall z in
              on Pop q refl w.below w.drops met w.left (omega (arith, w.same)) (omega (arith, w.same, u.few.0)) (omega (arith, w.less, u.few.1))
          by LineKind.CheckSat q z =
              let x = same_Some _ met z in
              let i : now.depth ≡ met.depth = ap (λ (m : Met). m.depth) x in
              let j : suc now.checks ≡ met.checks = ap (λ (m : Met). m.checks) x in
              on CheckSat q refl u.stack refl met (omega (arith, u.tall, i)) (omega (arith, j)) (omega (arith, j, u.few.0)) (omega (arith, i, u.few.1))
          by LineKind.GetModel q z =
              let i : now ≡ met = same_Some now met z in
              on GetModel q refl u.stack refl met (u.tall ∙ ap (λ (m : Met). suc m.depth) i) (sym (omega (arith, ap (λ (m : Met). m.checks) i))) (omega (arith, ap (λ (m : Met). m.checks) i, u.few.0)) (omega (arith, ap (λ (m : Met). m.depth) i, u.few.1))
          by LineKind.Joins q z =
              let i : now ≡ met = same_Some now met z in
              on Joins q refl (join u.stack (line_at s at ∷ [])) refl met (join_height u.stack (line_at s at ∷ []) ∙ u.tall ∙ ap (λ (m : Met). suc m.depth) i) (sym (omega (arith, ap (λ (m : Met). m.checks) i))) (omega (arith, ap (λ (m : Met). m.checks) i, u.few.0)) (omega (arith, ap (λ (m : Met). m.depth) i, u.few.1))
          by LineKind.Foreign q z = absurd (none-some met z)

      pub go_stop : {k : LineKind} {r : Option Met} → k ≡ line_kind (line_at s at) → r ≡ turned k now → r ≡ None → is_foreign s ≡ true
      unfolding turned heard_as is_ours hear_kind
      go_stop {k} e t o = u.foreign ∙ by k (sym e) (sym t ∙ o)
        where
          by : (k : LineKind) → line_kind (line_at s at) ≡ k → turned k now ≡ None → foreign_from s at u.stack ≡ true
          by LineKind.Push q z = absurd (none-some _ (sym z))
          by LineKind.Pop q z = lost_line u.stack (ours Pop q) (heard u.stack Pop q ∙ sunk u.stack now.depth now.checks u.tall z)
          by LineKind.CheckSat q z = absurd (none-some _ (sym z))
          by LineKind.GetModel q z = absurd (none-some _ (sym z))
          by LineKind.Joins q z = absurd (none-some _ (sym z))
          by LineKind.Foreign q z = foreign_line u.stack (ours Foreign q)

-- ---- what is answered
pub is-foreign : (s : Text) → is_foreign s ≡ true → None ≡ check_count s
unfolding check_count answered
is-foreign s e = rw e

pub open_foreign : (s : Text) (at : ℕ) {met : Met} → Upto s at met → at < length s → length s ≤ line_end s at → None ≡ check_count s
open_foreign s at u h l = is-foreign s (u.foreign ∙ not_ended s at h u.stack l)

pub all_counted : (s : Text) (at : ℕ) {met : Met} → Upto s at met → length s ≤ at → Some met.checks ≡ check_count s
unfolding check_count answered foreign_from ended all hear_all is_lost checks_from
all_counted s at {met} u h =
    let behind : drop at s ≡ [] = drop_of_length-le s {i = at} h in
    let none : cut (drop at s) ≡ [] = cut_behind s at h in
    let f : is_foreign s ≡ false = u.foreign ∙ rw (none, behind) in
    let c : length (checks s) ≡ met.checks + 0 = u.count ∙ rw none in
    rw f (ap Some (omega (arith, c)))

pub upto_next : (s : Text) (at : ℕ) {e : ℕ} {met : Met} → e ≡ line_end s at → Upto s (suc (line_end s at)) met → Upto s (e + 1) met
upto_next s at q u = rw (q, add-one (line_end s at)) u

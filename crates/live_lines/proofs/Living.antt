-- What the starts name, heard: one line more, and back over the last push.
use Prim.Native.Nat.{ℕ, suc, ◌≤◌, ◌<◌}
use native.Mathlib.Omega.{arith}
use mathlib.Core.Path.{◌≡◌, refl, sym, ap, ◌∙◌}
use mathlib.Core.Bool.{Bool, true, false, ◌&&◌, true≢false, false≢true}
use mathlib.Core.List.{List, [], ◌∷◌, ◌++◌}
use lib.ListN.{length, take, set, length-set}
use lib.Seq.{take-suc-set}
use Rattle.basics.specs.Text.{Text, same}
use Rattle.basics.specs.Lists.{all}
use Rattle.basics.proofs.Bool.{and_assoc, and-true}
use Rattle.smt_engines.specs.SmtEngines.{CMD_PUSH}
use Rattle.smt_engines.specs.Reader.{Stack, first, Reader, live, lost, pushes, asks, joins, kind, hear_kind, hear, hear_all}
use Rattle.smt_engines.proofs.Hearing.{hear_append}
use Rattle.command_lines.specs.declared.kinds.LineKind.{LineKind}
use Rattle.command_lines.specs.Lines.{line_at, line_end}
use Rattle.command_lines.specs.CommandLines.{is_command, line_kind, heard_as, is_ours}
use Rattle.command_lines.proofs.Reading.{heard-as, is-ours, is_push, push_by, joins_by, context_length, push_length}
use Rattle.live_lines.specs.LiveLines.{script_most, least_line, places, lines_at, stays, is_live, Lives}

pub live_is : {st su : Stack} → live st ≡ live su → st ≡ su
live_is {st} e = ap stack e
  where
    stack : Reader → Stack
    stack (live s) = s
    stack lost = st

pub lost≢live : {st : Stack} → lost ≡ live st → ⊥
lost≢live e = true≢false (ap is_lost e)
  where
    is_lost : Reader → Bool
    is_lost (live s) = false
    is_lost lost = true

-- ---- one line behind others
pub hear_snoc : (r : Reader) (a : List Text) (x : Text) → hear_all r (a ++ (x ∷ [])) ≡ hear (hear_all r a) x
unfolding hear_all
hear_snoc r a x = hear_append r a (x ∷ [])

pub all_snoc : (a : List Text) (x : Text) → all (a ++ (x ∷ [])) is_live ≡ (all a is_live && is_live x)
unfolding all
all_snoc [] x = and-true (is_live x)
all_snoc (l ∷ a) x = rw (all_snoc a x) (sym (and_assoc (is_live l) (all a is_live) (is_live x)))

pub lines_snoc : (s : Text) (a : List ℕ) (k : ℕ) → lines_at s (a ++ (k ∷ [])) ≡ lines_at s a ++ (line_at s k ∷ [])
unfolding lines_at
lines_snoc s [] k = refl
lines_snoc s (x ∷ a) k = ap {B = List Text} (λ r. line_at s x ∷ r) (lines_snoc s a k)

-- ---- the kinds
-- a live line pushes or joins
pub data Told (x : Text) : Type 0 where
  push : same x CMD_PUSH ≡ true → kind x ≡ pushes → Told x
  joined : same x CMD_PUSH ≡ false → kind x ≡ joins → Told x

pub told : (x : Text) → is_live x ≡ true → Told x
unfolding is_live stays heard_as is_push
told x h = at (line_kind x) refl
  where
    at : (k : LineKind) → line_kind x ≡ k → Told x
    at LineKind.Push e = push (push_by x ∙ ap is_push e) (heard-as x ∙ ap heard_as e)
    at LineKind.Pop e = absurd (false≢true (sym (ap stays (heard-as x ∙ ap heard_as e)) ∙ h))
    at LineKind.CheckSat e = absurd (false≢true (sym (ap stays (heard-as x ∙ ap heard_as e)) ∙ h))
    at LineKind.GetModel e = absurd (false≢true (sym (ap stays (heard-as x ∙ ap heard_as e)) ∙ h))
    at LineKind.Joins e = joined (push_by x ∙ ap is_push e) (heard-as x ∙ ap heard_as e)
    at LineKind.Foreign e = joined (push_by x ∙ ap is_push e) (heard-as x ∙ ap heard_as e)

-- a command of ours that lives is long enough
pub live_length : (x : Text) → is_command x ≡ true → is_live x ≡ true → least_line ≤ suc (length x)
unfolding is_ours is_live stays heard_as is_push
live_length x o h = at (line_kind x) refl
  where
    at : (k : LineKind) → line_kind x ≡ k → least_line ≤ suc (length x)
    at LineKind.Push e = omega (arith, push_length x (push_by x ∙ ap is_push e))
    at LineKind.Pop e = absurd (false≢true (sym (ap stays (heard-as x ∙ ap heard_as e)) ∙ h))
    at LineKind.CheckSat e = absurd (false≢true (sym (ap stays (heard-as x ∙ ap heard_as e)) ∙ h))
    at LineKind.GetModel e = absurd (false≢true (sym (ap stays (heard-as x ∙ ap heard_as e)) ∙ h))
    at LineKind.Joins e = omega (arith, context_length x (joins_by x e))
    at LineKind.Foreign e = absurd (true≢false (sym o ∙ is-ours x ∙ ap is_ours e))

-- ---- one live line more
module _ (s : Text) (starts : List ℕ) (n at : ℕ) where
  pub lives_more : n < length starts → is_live (line_at s at) ≡ true → least_line ≤ suc (length (line_at s at)) → (st su : Stack) → Lives s starts n at st → hear (live st) (line_at s at) ≡ live su
      → Lives s (set starts n at) (suc n) (suc (line_end s at)) su
  unfolding line_end
  lives_more room h long st su l e =
      let named : lines_at s (take (suc n) (set starts n at)) ≡ lines_at s (take n starts) ++ (line_at s at ∷ []) =
      ap (lines_at s) (take-suc-set starts n at room) ∙ lines_snoc s (take n starts) at in
      record {
        heard = rw (named, hear_snoc (live (first [])) (lines_at s (take n starts)) (line_at s at), l.heard) e;
        lines = rw (named, all_snoc (lines_at s (take n starts)) (line_at s at), l.lines) h;
        held = omega (arith, length-set starts n at);
        few = omega (arith, l.few, long);
      }

  -- a question changes nothing
  pub lives_same : (k : LineKind) → line_kind (line_at s at) ≡ k → heard_as k ≡ asks → (st su : Stack) → Lives s starts n at st → hear (live st) (line_at s at) ≡ live su
      → Lives s starts n (suc (line_end s at)) su
  unfolding line_end hear hear_kind
  lives_same k q a st su l e =
      let same_stack : live st ≡ live su = rw (heard-as (line_at s at) ∙ ap heard_as q ∙ a) at e in
      record { heard = l.heard ∙ same_stack; lines = l.lines; held = l.held; few = omega (arith, l.few) }

-- nothing is read, nothing lives
pub lives_none : (s : Text) (starts : List ℕ) → Lives s starts 0 0 (first [])
unfolding lines_at hear_all all
lives_none s starts = record { heard = refl; lines = refl; held = omega arith; few = omega arith }

-- there is a place for one more: 65,536 bytes hold 7,281 lines of nine
pub lives_room : {s : Text} {starts : List ℕ} {n at : ℕ} {st : Stack} → Lives s starts n at st → at < script_most → n < places
lives_room l h = omega (arith, l.few)

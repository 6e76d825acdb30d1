-- One line of a script of our commands: the reader hears it, and the rest is of our commands too.
use Prim.Native.Nat.{ℕ, suc, ◌<◌}
use native.Mathlib.Omega.{arith}
use native.Mathlib.Decide.{dec_lt}
use mathlib.Core.Path.{◌≡◌, refl, sym, ◌∙◌}
use mathlib.Core.Bool.{Bool, true, false, true≢false}
use mathlib.Core.List.{◌++◌}
use lib.ListN.{length, drop}
use Rattle.basics.specs.Text.{Text, same}
use Rattle.smt_engines.specs.SmtEngines.{CMD_CHECK_SAT}
use Rattle.smt_engines.specs.Reader.{cut, Stack, Reader, live, lost, hear}
use Rattle.command_lines.specs.Lines.{line_at, line_end}
use Rattle.command_lines.specs.CommandLines.{is_command}
use Rattle.command_lines.proofs.Cutting.{cut_at}
use Rattle.script_checks.specs.ScriptChecks.{noted, checks_from, foreign_from}
use Rattle.script_checks.proofs.Reading.{not_ended, foreign_line, ours_line, lost_line}

pub record Stepped (s : Text) (at : ℕ) (st : Stack) : Type 0 where
  pub stack : Stack
  pub inside : line_end s at < length s
  pub command : is_command (line_at s at) ≡ true
  pub heard : hear (live st) (line_at s at) ≡ live stack
  pub ours : foreign_from s (suc (line_end s at)) stack ≡ false
  pub checks :
      checks_from (live st) (cut (drop at s)) ≡ noted (same (line_at s at) CMD_CHECK_SAT) (live st) ++ checks_from (live stack) (cut (drop (suc (line_end s at)) s))

module _ (s : Text) (at : ℕ) (h : at < length s) (st : Stack) (o : foreign_from s at st ≡ false) where
  line_ends : line_end s at < length s
  line_ends = by (dec_lt (line_end s at) (length s))
    where
      by : Dec (line_end s at < length s) → line_end s at < length s
      by (yes l) = l
      by (no l) = absurd (true≢false (sym (not_ended s at h st (omega arith)) ∙ o))

  line_ours : is_command (line_at s at) ≡ true
  line_ours = by (is_command (line_at s at)) refl
    where
      by : (x : Bool) → is_command (line_at s at) ≡ x → x ≡ true
      by true e = refl
      by false e = absurd (true≢false (sym (foreign_line s at h line_ends st e) ∙ o))

  pub step : Stepped s at st
  unfolding foreign_from checks_from
  step = by (hear (live st) (line_at s at)) refl
    where
      by : (r : Reader) → hear (live st) (line_at s at) ≡ r → Stepped s at st
      by lost e = absurd (true≢false (sym (lost_line s at h line_ends st line_ours e) ∙ o))
      by (live su) e =
          record {
            stack = su;
            inside = line_ends;
            command = line_ours;
            heard = e;
            ours = sym (ours_line s at h line_ends st (live su) line_ours e) ∙ o;
            checks = rw (cut_at s at h, e);
          }

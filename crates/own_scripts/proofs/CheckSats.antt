-- The stacks at the check-sats of lists of commands.
use Prim.Native.Nat.{ℕ}
use native.Mathlib.Omega.{arith}
use mathlib.Core.Path.{◌≡◌, refl, sym, ap, ◌∙◌}
use mathlib.Core.Bool.{Bool, true, false}
use mathlib.Core.List.{List, [], ◌∷◌, ◌++◌, append_assoc}
use Rattle.basics.specs.Text.{Text, same}
use Rattle.basics.proofs.All.{All, end, more}
use Rattle.basics.proofs.Texts.{same_eq}
use Rattle.smt_engines.specs.SmtEngines.{CMD_PUSH, CMD_POP, CMD_CHECK_SAT, CMD_GET_MODEL}
use Rattle.smt_engines.specs.Command.{Command, CheckSat, command_to_string}
use Rattle.smt_engines.specs.Reader.{Stack, Reader, live, lost, kind, hear_kind, hear, hear_all, lines}
use Rattle.smt_engines.proofs.Commands.{Plain}
use Rattle.smt_engines.proofs.Hearing.{hears, hears_append, lines_append}
use Rattle.script_checks.specs.ScriptChecks.{noted, checks_from}

-- ---- commands that are no check-sat
abbrev pub NoCheck : Command → Type 0
NoCheck c = same (command_to_string c) CMD_CHECK_SAT ≡ false

-- a check-sat does not join its level
pub plain_no : (c : Command) → Plain c → NoCheck c
unfolding kind same CMD_CHECK_SAT
plain_no c h = at (same (command_to_string c) CMD_CHECK_SAT) refl
  where
    at : (x : Bool) → same (command_to_string c) CMD_CHECK_SAT ≡ x → x ≡ false
    at false e = refl
    at true e =
        let k = ap kind (sym (same_eq (command_to_string c) CMD_CHECK_SAT e)) ∙ h.joins in
        let z : ◌≡◌ {A = ℕ} 0 1 = cc in
        absurd (omega arith)

pub checks_none : (r : Reader) {cs : List Command} → All NoCheck cs → checks_from r (lines cs) ≡ []
unfolding checks_from lines noted
checks_none r end = refl
checks_none r (more {a = c} h hs) = rw h (checks_none (hear r (command_to_string c)) hs)

-- ---- one list behind another
checks_then : (r : Reader) (a b : List Text) → checks_from r (a ++ b) ≡ checks_from r a ++ checks_from (hear_all r a) b
unfolding checks_from hear_all
checks_then r [] b = refl
checks_then r (l ∷ a) b =
    ap {B = List Stack} (λ x. noted (same l CMD_CHECK_SAT) r ++ x) (checks_then (hear r l) a b)
    ∙ sym (append_assoc (noted (same l CMD_CHECK_SAT) r) (checks_from (hear r l) a) (checks_from (hear_all (hear r l) a) b))

pub checks_append : (r : Reader) (a b : List Command) → checks_from r (lines (a ++ b)) ≡ checks_from r (lines a) ++ checks_from (hears r a) (lines b)
unfolding hears
checks_append r a b = ap (checks_from r) (lines_append a b) ∙ checks_then r (lines a) (lines b)

-- ---- a check-sat behind commands without one: it sees what they leave
seen_by : (r : Reader) (st : Stack) → hears r (CheckSat ∷ []) ≡ live st → checks_from r (lines (CheckSat ∷ [])) ≡ st ∷ []
unfolding hears hear_all hear hear_kind kind same lines checks_from noted command_to_string CMD_PUSH CMD_POP CMD_CHECK_SAT CMD_GET_MODEL
seen_by (live su) st e = cc
seen_by lost st e = let z : ◌≡◌ {A = ℕ} 0 1 = cc in absurd (omega arith)

pub checked : (r : Reader) (st : Stack) {cs : List Command} → All NoCheck cs → hears r (cs ++ (CheckSat ∷ [])) ≡ live st → checks_from r (lines (cs ++ (CheckSat ∷ []))) ≡ st ∷ []
checked r st {cs} h e =
    checks_append r cs (CheckSat ∷ []) ∙ rw (checks_none r h) (seen_by (hears r cs) st (sym (hears_append r cs (CheckSat ∷ [])) ∙ e))

-- The kinds of lines, and what the reader takes a line for.
use Rattle.std.specs.Prelude.{if◌then◌else◌}
use Prim.Native.Nat.{◌≤◌}
use native.Mathlib.Omega.{arith}
use mathlib.Core.Path.{◌≡◌, refl, sym, ap, ◌∙◌}
use mathlib.Core.Bool.{Bool, true, false, ◌||◌, false≢true}
use lib.ListN.{length, take, length-take}
use Rattle.basics.specs.Text.{Text, ascii, same}
use Rattle.basics.specs.Lists.{all}
use Rattle.basics.proofs.Bool.{and_both, and_assoc}
use Rattle.basics.proofs.Texts.{same_eq}
use Rattle.smt_engines.specs.SmtEngines.{CMD_PUSH, CMD_POP, CMD_CHECK_SAT, CMD_GET_MODEL}
use Rattle.smt_engines.specs.Reader.{pushes, pops, asks, joins, kind}
use Rattle.command_lines.specs.declared.kinds.LineKind.{LineKind}
use Rattle.command_lines.specs.declared.kinds.LineKind.TheVariants.{Push, Pop, CheckSat, GetModel, Joins, Foreign}
use Rattle.command_lines.specs.declared.parentheses.Scan.TheVariants.{Outside}
use Rattle.command_lines.specs.CommandLines.{is_printing, scan, is_shut, starts_with, opens_context, is_context, is_command, line_kind, heard_as, is_ours}

abbrev kind_by : (push pop check model context : Bool) → LineKind
kind_by push pop check model context =
    if push then Push else if pop then Pop else if check then CheckSat else if model then GetModel else if context then Joins else Foreign

-- the reader's kind of a line
pub heard-as : (line : Text) → kind line ≡ heard_as (line_kind line)
unfolding kind line_kind heard_as CMD_PUSH CMD_POP CMD_CHECK_SAT CMD_GET_MODEL
heard-as line = at (same line CMD_PUSH) (same line CMD_POP) (same line CMD_CHECK_SAT) (same line CMD_GET_MODEL) (is_context line)
  where
    at : (push pop check model context : Bool) → (if push then pushes else if pop then pops else if check || model then asks else joins) ≡ heard_as (kind_by push pop check model context)
    at true pop check model context = refl
    at false true check model context = refl
    at false false true model context = refl
    at false false false true context = refl
    at false false false false true = refl
    at false false false false false = refl

-- a line is a command exactly if it has a kind of ours
pub is-ours : (line : Text) → is_command line ≡ is_ours (line_kind line)
unfolding is_command line_kind is_ours
is-ours line = at (same line CMD_PUSH) (same line CMD_POP) (same line CMD_CHECK_SAT) (same line CMD_GET_MODEL) (is_context line)
  where
    at : (push pop check model context : Bool) → (push || pop || check || model || context) ≡ is_ours (kind_by push pop check model context)
    at true pop check model context = refl
    at false true check model context = refl
    at false false true model context = refl
    at false false false true context = refl
    at false false false false true = refl
    at false false false false false = refl

-- ---- back from the kind
unfoldable pub is_push : LineKind → Bool
is_push Push = true
is_push Pop = false
is_push CheckSat = false
is_push GetModel = false
is_push Joins = false
is_push Foreign = false

pub push_by : (line : Text) → same line CMD_PUSH ≡ is_push (line_kind line)
unfolding line_kind is_push
push_by line = at (same line CMD_PUSH) (same line CMD_POP) (same line CMD_CHECK_SAT) (same line CMD_GET_MODEL) (is_context line)
  where
    at : (push pop check model context : Bool) → push ≡ is_push (kind_by push pop check model context)
    at true pop check model context = refl
    at false true check model context = refl
    at false false true model context = refl
    at false false false true context = refl
    at false false false false true = refl
    at false false false false false = refl

unfoldable is_joins : LineKind → Bool
is_joins Push = false
is_joins Pop = false
is_joins CheckSat = false
is_joins GetModel = false
is_joins Joins = true
is_joins Foreign = false

pub joins_by : (line : Text) → line_kind line ≡ Joins → is_context line ≡ true
unfolding line_kind is_joins
joins_by line e = at (same line CMD_PUSH) (same line CMD_POP) (same line CMD_CHECK_SAT) (same line CMD_GET_MODEL) (is_context line) (ap is_joins e)
  where
    at : (push pop check model context : Bool) → is_joins (kind_by push pop check model context) ≡ true → context ≡ true
    at true pop check model context h = absurd (false≢true h)
    at false true check model context h = absurd (false≢true h)
    at false false true model context h = absurd (false≢true h)
    at false false false true context h = absurd (false≢true h)
    at false false false false true h = refl
    at false false false false false h = h

-- ---- how long a command is
starts_length : (head line : Text) → starts_with head line ≡ true → length head ≤ length line
unfolding starts_with
starts_length head line h =
    let e : length (take (length head) line) ≡ length head = ap length (same_eq (take (length head) line) head h) in
    omega (arith, e, length-take (length head) line)

pub context_length : (line : Text) → is_context line ≡ true → 8 ≤ length line
unfolding is_context opens_context
context_length line h =
    let k = (and_both (opens_context line) _ (sym (and_assoc (opens_context line) (all line is_printing) (is_shut (scan (Outside 0) line))) ∙ h)).0 in
    at (starts_with (ascii "(assert ") line) refl (starts_with (ascii "(declare-fun ") line) refl k
  where
    at : (p : Bool) → starts_with (ascii "(assert ") line ≡ p → (q : Bool) → starts_with (ascii "(declare-fun ") line ≡ q
        → (p || q || starts_with (ascii "(declare-sort ") line) ≡ true → 8 ≤ length line
    at true e q f h = starts_length (ascii "(assert ") line e
    at false e true f h = let l : 13 ≤ length line = starts_length (ascii "(declare-fun ") line f in omega arith
    at false e false f h = let l : 14 ≤ length line = starts_length (ascii "(declare-sort ") line h in omega arith

pub push_length : (line : Text) → same line CMD_PUSH ≡ true → length line ≡ 8
unfolding CMD_PUSH
push_length line h = ap length (same_eq line (ascii "(push 1)") h)

pub check_length : (line : Text) → same line CMD_CHECK_SAT ≡ true → length line ≡ 11
unfolding CMD_CHECK_SAT
check_length line h = ap length (same_eq line (ascii "(check-sat)") h)

-- ---- the check-sat
unfoldable pub is_check : LineKind → Bool
is_check Push = false
is_check Pop = false
is_check CheckSat = true
is_check GetModel = false
is_check Joins = false
is_check Foreign = false

pub check_by : (line : Text) → same line CMD_CHECK_SAT ≡ is_check (line_kind line)
unfolding line_kind is_check same CMD_PUSH CMD_POP CMD_CHECK_SAT
check_by line = at (same line CMD_PUSH) refl (same line CMD_POP) refl (same line CMD_CHECK_SAT) refl (same line CMD_GET_MODEL) (is_context line)
  where
    at : (push : Bool) → same line CMD_PUSH ≡ push → (pop : Bool) → same line CMD_POP ≡ pop → (check : Bool) → same line CMD_CHECK_SAT ≡ check
        → (model context : Bool) → check ≡ is_check (kind_by push pop check model context)
    at true e pop f check g model context = sym g ∙ ap (λ (l : Text). same l CMD_CHECK_SAT) (same_eq line CMD_PUSH e)
    at false e true f check g model context = sym g ∙ ap (λ (l : Text). same l CMD_CHECK_SAT) (same_eq line CMD_POP f)
    at false e false f true g model context = refl
    at false e false f false g true context = refl
    at false e false f false g false true = refl
    at false e false f false g false false = refl

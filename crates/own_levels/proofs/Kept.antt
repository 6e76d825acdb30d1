-- Commands whose lines stay: a push, and those that declare or assert.
use Prim.Native.Nat.{suc, ◌≤◌}
use native.Mathlib.Omega.{arith}
use mathlib.Core.Path.{◌≡◌, refl, ap}
use mathlib.Core.Bool.{true, false≢true}
use mathlib.Core.List.{List, [], ◌∷◌, ◌++◌}
use lib.Dec.{leb}
use lib.ListN.{length, length-append}
use borrow.Author.Tests.{le-leb}
use Rattle.basics.specs.Text.{Text, newline, same}
use Rattle.basics.specs.Lists.{all}
use Rattle.basics.proofs.Bool.{and_both, both_and}
use Rattle.basics.proofs.All.{All, end, more, all_weaken}
use Rattle.smt_engines.specs.SmtEngines.{CMD_PUSH, CMD_POP, CMD_CHECK_SAT, CMD_GET_MODEL, context_to_string}
use Rattle.smt_engines.specs.Command.{Command, Push, Pop, CheckSat, GetModel, Assume, AssumeNot, DeclareSort, DeclareConstant, DeclareFunction, DeclareLiteral, assumption, declaration, command_to_string, script}
use Rattle.smt_engines.specs.Reader.{Stack, first, live, kind, lines}
use Rattle.smt_engines.proofs.Commands.{Plain}
use Rattle.smt_engines.proofs.Hearing.{Whole, hears, cut_script, whole_push}
use Rattle.live_lines.specs.LiveLines.{script_most, least_line, stays, is_live}
use Rattle.level_lines.specs.Bytes.{total, stack_bytes}
use Rattle.level_lines.proofs.Bytes.{all_bytes}
use Rattle.own_levels.specs.OwnLevels.{is_kept, OwnText}

pub record Kept (c : Command) : Type 0 where
  pub whole : Whole c
  pub kept : is_kept (command_to_string c) ≡ true

-- a command that is none of the four has the head of a declaration or an assertion
plain_long : (c : Command) → stays (kind (command_to_string c)) ≡ true → least_line ≤ suc (length (command_to_string c))
unfolding stays kind same command_to_string context_to_string assumption declaration CMD_PUSH CMD_POP CMD_CHECK_SAT CMD_GET_MODEL
plain_long Push h = omega arith
plain_long Pop h = absurd (false≢true h)
plain_long CheckSat h = absurd (false≢true h)
plain_long GetModel h = absurd (false≢true h)
plain_long (Assume e tag) h = omega arith
plain_long (AssumeNot e tag) h = omega arith
plain_long (DeclareSort d) h = omega arith
plain_long (DeclareConstant v) h = omega arith
plain_long (DeclareFunction f) h = omega arith
plain_long (DeclareLiteral l) h = omega arith

stays_kept : (c : Command) → Whole c → stays (kind (command_to_string c)) ≡ true → Kept c
unfolding is_kept is_live
stays_kept c w h = record { whole = w; kept = both_and h (le-leb least_line (suc (length (command_to_string c))) (plain_long c h)) }

pub push_kept : Kept Push
unfolding stays kind same command_to_string CMD_PUSH
push_kept = stays_kept Push whole_push refl

pub plain_kept : (c : Command) → Plain c → Kept c
unfolding stays
plain_kept c h = stays_kept c h.one (ap stays h.joins)

-- ---- their text
pub wholes : {cs : List Command} → All Kept cs → All Whole cs
wholes = all_weaken (λ c h. h.whole)

lines_kept : {cs : List Command} → All Kept cs → all (lines cs) is_kept ≡ true
unfolding lines all
lines_kept end = refl
lines_kept (more h t) = both_and h.kept (lines_kept t)

pub own_text : {cs : List Command} → All Kept cs → length (script cs) ≤ script_most → OwnText (script cs)
own_text {cs} h short = record { kept = rw (cut_script (wholes h)) (lines_kept h); short = short }

-- ---- their bytes
kept_live : (ls : List Text) → all ls is_kept ≡ true → all ls is_live ≡ true
unfolding all is_kept
kept_live [] h = refl
kept_live (x ∷ ls) h =
    let r = and_both (is_kept x) (all ls is_kept) h in
    both_and (and_both (is_live x) (leb least_line (suc (length x))) r.0).0 (kept_live ls r.1)

total_script : (cs : List Command) → total (lines cs) ≡ length (script cs)
unfolding total lines script
total_script [] = refl
total_script (c ∷ cs) =
    omega (arith, total_script cs, length-append (command_to_string c ++ (newline ∷ [])) (script cs), length-append (command_to_string c) (newline ∷ []))

pub script_bytes : {cs : List Command} {su : Stack} → All Kept cs → hears (live (first [])) cs ≡ live su → stack_bytes su ≡ length (script cs)
unfolding hears stack_bytes total
script_bytes {cs} {su} k h = omega (arith, all_bytes (first []) su (lines cs) (kept_live (lines cs) (lines_kept k)) h, total_script cs)

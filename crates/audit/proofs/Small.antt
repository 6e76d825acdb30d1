-- A check-sat that is named is one of the script's, and a script that is taken has no more than bytes.
use Prim.Native.Nat.{ℕ, suc, ◌+◌, ◌≤◌, ◌<◌}
use native.Mathlib.Omega.{arith}
use mathlib.Core.Path.{◌≡◌, sym}
use mathlib.Core.Bool.{Bool, true, false}
use mathlib.Core.List.{List, [], ◌∷◌}
use lib.Dec.{eqb}
use lib.ListN.{length, length-append}
use Rattle.basics.specs.Text.{Text, newline, same}
use Rattle.book.specs.Book.{Book}
use Rattle.smt_engines.specs.SmtEngines.{CMD_CHECK_SAT}
use Rattle.smt_engines.specs.Reader.{glue, cut, Stack, first, Reader, live, lost, hear}
use Rattle.script_checks.specs.ScriptChecks.{noted, checks_from, checks}
use Rattle.live_lines.specs.LiveLines.{script_most}
use Rattle.question_lists.specs.Questions.{Question, questions_of}
use Rattle.audit.proofs.Accepted.{Accepted, not_refused}
use Rattle.audit.specs.Audit.{differs_at, agreeing, verdict, audited, audit_call, Small}

verdict_below : (k : ℕ) (bs : List Bool) (j : ℕ) → verdict k bs ≡ differs_at j → j < k + length bs
unfolding verdict
verdict_below k [] j e = let z : ◌≡◌ {A = ℕ} 0 1 = cc in absurd (omega arith)
verdict_below k (true ∷ bs) j e = omega (arith, verdict_below (suc k) bs j e)
verdict_below k (false ∷ bs) j e = let i : k ≡ j = cc in omega (arith, i)

agreeing_few : (b : Book) (sts : List Stack) (qs : List Question) → length (agreeing b sts qs) ≤ length sts
unfolding agreeing
agreeing_few b [] qs = omega arith
agreeing_few b (st ∷ sts) [] = omega arith
agreeing_few b (st ∷ sts) (q ∷ qs) = omega (arith, agreeing_few b sts qs)

noted_one : (x : Bool) (r : Reader) → length (noted x r) ≤ 1
unfolding noted
noted_one true (live st) = omega arith
noted_one true lost = omega arith
noted_one false r = omega arith

checks_few : (r : Reader) (ls : List Text) → length (checks_from r ls) ≤ length ls
unfolding checks_from
checks_few r [] = omega arith
checks_few r (l ∷ ls) =
    omega (arith, length-append (noted (same l CMD_CHECK_SAT) r) (checks_from (hear r l) ls), noted_one (same l CMD_CHECK_SAT) r, checks_few (hear r l) ls)

cut_few : (s : Text) → length (cut s) ≤ length s
unfolding cut glue
cut_few [] = omega arith
cut_few (c ∷ s) = at (eqb c newline) (cut s) (cut_few s)
  where
    at : (x : Bool) (ls : List Text) → length ls ≤ length s → length (glue x c ls) ≤ suc (length s)
    at true ls h = omega arith
    at false [] h = omega arith
    at false (l ∷ ls) h = omega arith

pub audited_small : (scratch : ℕ) (b : Book) (ns : List ℕ) (s : Text) → Small (audited scratch b ns s)
unfolding checks
audited_small scratch b ns s = record { most = λ k e. by k (not_refused scratch b ns s (differs_at k) e) }
  where
    by : (k : ℕ) → Accepted b ns s (differs_at k) → k ≤ script_most
    by k a =
        omega (
          arith,
          a.short,
          verdict_below 1 (agreeing b (checks s) (questions_of ns)) k (sym a.given),
          agreeing_few b (checks s) (questions_of ns),
          checks_few (live (first [])) (cut s),
          cut_few s,
        )

pub call_small : (b : Book) (scratch questions : List ℕ) (s : Text) → Small (audit_call b scratch questions s).answer
unfolding audit_call
call_small b scratch questions s = audited_small (length scratch) b _ s

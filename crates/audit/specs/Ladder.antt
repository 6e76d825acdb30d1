-- The ladder of an audit as the code goes through it: the book test first, and then what is behind it. A law says that it is `audited`.
use Rattle.std.specs.Prelude.{ℕ, min, Bool, true, false, not, List, eqb, ltb, length}
use Rattle.basics.specs.Text.{Text}
use Rattle.basics.specs.Lists.{all}
use Rattle.basics.specs.Outcome.{Outcome, accepted, refuse, ◌>>◌}
use Rattle.book.specs.Book.{Book}
use Rattle.book.specs.Decode.{program}
use Rattle.script_checks.specs.ScriptChecks.{checks, is_foreign}
use Rattle.live_lines.specs.LiveLines.{script_most}
use Rattle.question_lists.specs.Questions.{questions_of, is_inside, is_complete}
use Rattle.audit.specs.Audit.{has_no_tag, Verdict, agreeing, verdict}

unfoldable pub is_long : (script : Text) → Bool
is_long script = ltb script_most (length script)

-- a refusal of the book, beside a script that may be too long: 3 comes before 4
unfoldable pub with_script : (long : Bool) → (refusal : ℕ) → ℕ
with_script true k = min k 3
with_script false k = k

unfoldable pub checks_in : Book → (numbers : List ℕ) → (script : Text) → Outcome Verdict
checks_in b numbers script = do
  let qs = questions_of numbers
  refuse 26 (is_foreign script)
  refuse 27 (not (eqb (length (checks script)) (length qs)))
  accepted (verdict 1 (agreeing b (checks script) qs))

unfoldable pub audit_in : Book → (numbers : List ℕ) → (script : Text) → Outcome Verdict
audit_in b numbers script = do
  let qs = questions_of numbers
  refuse 3 (is_long script)
  refuse 7 (not (all qs (is_inside b)))
  refuse 9 (not (all qs (is_complete b)))
  refuse 25 (not (all (program b).literals has_no_tag))
  checks_in b numbers script

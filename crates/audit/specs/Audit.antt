-- THE CALL audit: whether a foreign script leaves live, at each check-sat, the commands that the book gives for its question.
use Rattle.std.specs.Prelude.{ℕ, suc, ◌≤◌, ◌≡◌, Bool, true, false, not, ◌||◌, List, [], ◌∷◌, eqb, ltb, length}
use Rattle.std.specs.Prelude.{Result, Ok, Err, Some, None}
use Rattle.std.specs.declared.option.Option as code
use Rattle.std.proofs.Math.Option.{Option, none, some}
use Rattle.basics.specs.Text.{Text}
use Rattle.basics.specs.Lists.{all}
use Rattle.basics.specs.Buffer.{scratch_least, scratch_after}
use Rattle.basics.specs.Outcome.{Outcome, refused, accepted, refuse, ◌>>◌}
use Rattle.book.specs.RExpr.{Literal, is_tag}
use Rattle.book.specs.Refusal.{number}
use Rattle.book.specs.declared.Refusal.{Refusal}
use Rattle.book.specs.Book.{Book}
use Rattle.book.specs.Decode.{program}
use Rattle.book_contents.specs.Contents.{laid_out, counts_fit}
use Rattle.book_forest.specs.Forest.{is_forest}
use Rattle.book_depth.specs.Depth.{shallow}
use Rattle.book_names.specs.Names.{names_good}
use Rattle.book_test.specs.BookTest.{in_range}
use Rattle.number_lists.specs.Numbers.{numbers}
use Rattle.smt_engines.specs.Reader.{Stack}
use Rattle.script_checks.specs.ScriptChecks.{checks, is_foreign}
use Rattle.live_lines.specs.LiveLines.{script_most}
use Rattle.level_lines.specs.AsOften.{same_levels}
use Rattle.question_lists.specs.Questions.{Question, questions_of, is_inside, is_complete, stack_for}

unfoldable pub has_no_tag : Option Literal → Bool
has_no_tag none = true
has_no_tag (some l) = not (is_tag l)

-- accepted, or the first check-sat that differs, counted from 1
pub data Verdict : Type 0 where
  agrees : Verdict
  differs_at : ℕ → Verdict

-- whether the stack at each check-sat has the levels of its question
unfoldable pub agreeing : Book → List Stack → List Question → List Bool
agreeing b [] qs = []
agreeing b (st ∷ sts) [] = []
agreeing b (st ∷ sts) (q ∷ qs) = same_levels st (stack_for b q) ∷ agreeing b sts qs

-- the first of them is the k-th
unfoldable pub verdict : (k : ℕ) → List Bool → Verdict
verdict k [] = agrees
verdict k (true ∷ bs) = verdict (suc k) bs
verdict k (false ∷ bs) = differs_at k

-- `scratch` is the scratch buffer's length
unfoldable pub audited : (scratch : ℕ) → Book → (numbers : List ℕ) → (script : Text) → Outcome Verdict
audited scratch b numbers script = do
  let qs = questions_of numbers
  refuse 1 (ltb scratch scratch_least)
  refuse 2 (not (laid_out b))
  refuse 3 (not (counts_fit b) || ltb script_most (length script))
  refuse 4 (not (in_range b))
  refuse 5 (not (is_forest b))
  refuse 6 (not (shallow b))
  refuse 28 (not (names_good b))
  refuse 7 (not (all qs (is_inside b)))
  refuse 9 (not (all qs (is_complete b)))
  refuse 25 (not (all (program b).literals has_no_tag))
  refuse 26 (is_foreign script)
  refuse 27 (not (eqb (length (checks script)) (length qs)))
  accepted (verdict 1 (agreeing b (checks script) qs))

-- a check-sat that is named is at most the longest script's length, so that 32 bits hold it
pub record Small (o : Outcome Verdict) : Type 0 where
  pub most : (k : ℕ) → o ≡ accepted (differs_at k) → k ≤ script_most

-- the first check-sat that differs, or none
unfoldable pub verdict_value : code.Option ℕ → Verdict
verdict_value None = agrees
verdict_value (Some k) = differs_at k

-- the number and values of each answer
unfoldable pub audited_value : Result (code.Option ℕ) Refusal → Outcome Verdict
audited_value (Ok differs) = accepted (verdict_value differs)
audited_value (Err r) = refused (number r)

-- the answer, and the scratch afterwards. The questions are handed over as bytes.
pub record AuditCalled : Type 0 where
  pub answer : Outcome Verdict
  pub scratch : List ℕ

unfoldable pub audit_call : Book → (scratch questions : List ℕ) → (script : Text) → AuditCalled
audit_call b scratch questions script =
    record { answer = audited (length scratch) b (numbers questions) script; scratch = scratch_after scratch }

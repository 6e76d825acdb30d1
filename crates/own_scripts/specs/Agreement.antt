-- What an audit's verdict says, in the words of the request and without Booleans, and what its 9 says. Proved in proofs/: often_test, levels_test, agreement and
-- audits (Agreement), asks_9 (Asking).
use Rattle.std.specs.Prelude.{ℕ, zero, suc, ◌≤◌, ◌<◌, ◌≡◌, true, false, List, [], length, get_or}
use Rattle.basics.specs.Text.{Text}
use Rattle.basics.specs.Buffer.{scratch_least}
use Rattle.basics.specs.Outcome.{refused}
use Rattle.book.specs.Book.{Book}
use Rattle.smt_engines.specs.Reader.{Stack, first, over, height}
use Rattle.solvers.specs.declared.Session.{Session}
use Rattle.solvers.specs.Session.{fresh_session}
use Rattle.solvers.specs.Calls.{Host, ask_for, call}
use Rattle.level_lines.specs.AsOften.{times_in, as_often, same_levels}
use Rattle.script_checks.specs.ScriptChecks.{checks}
use Rattle.question_lists.specs.Questions.{Question, questions_of, question_at, is_complete, stack_for}
use Rattle.audit.specs.Audit.{Verdict, agrees, differs_at, agreeing, verdict}

-- level k from the last one down; nothing below the first
unfoldable pub level_at : Stack → ℕ → List Text
level_at (first l) zero = l
level_at (first l) (suc k) = []
level_at (over l st) zero = l
level_at (over l st) (suc k) = level_at st k

-- every line is as often in the one as in the other
abbrev pub AsOften : List Text → List Text → Type 0
AsOften l m = (x : Text) → times_in x l ≡ times_in x m

-- as many levels, and at each the same commands, each as often
pub record SameCommands (st su : Stack) : Type 0 where
  pub height : height st ≡ height su
  pub levels : (k : ℕ) → AsOften (level_at st k) (level_at su k)

-- the definitions' tests say just this, of one level and of all
pub record OftenTest (l m : List Text) : Type 0 where
  pub each : as_often l m ≡ true → AsOften l m
  pub only : AsOften l m → as_often l m ≡ true

pub record LevelsTest (st su : Stack) : Type 0 where
  pub each : same_levels st su ≡ true → SameCommands st su
  pub only : SameCommands st su → same_levels st su ≡ true

-- at the check-sat that k others stand before, the live levels are those of its question
abbrev pub AgreesAt : Book → List Stack → List Question → ℕ → Type 0
AgreesAt b sts qs k = SameCommands (get_or sts k (first [])) (stack_for b (question_at qs k))

-- of as many stacks as questions
pub record Agreement (b : Book) (sts : List Stack) (qs : List Question) : Type 0 where
  -- accepted exactly if each agrees
  pub each : verdict 1 (agreeing b sts qs) ≡ agrees → (k : ℕ) → k < length qs → AgreesAt b sts qs k
  pub only : ((k : ℕ) → k < length qs → AgreesAt b sts qs k) → verdict 1 (agreeing b sts qs) ≡ agrees
  -- the one that is named differs, and none before it does
  pub named : (k : ℕ) → verdict 1 (agreeing b sts qs) ≡ differs_at k → (1 ≤ k) × (k ≤ length qs)
  pub differs : (k : ℕ) → verdict 1 (agreeing b sts qs) ≡ differs_at (suc k) → ¬ AgreesAt b sts qs k
  pub before : (k : ℕ) → verdict 1 (agreeing b sts qs) ≡ differs_at (suc k) → (i : ℕ) → i < k → AgreesAt b sts qs i

-- an accepted audit: its verdict is on as many check-sats as questions
pub record Audits (b : Book) (numbers : List ℕ) (script : Text) (v : Verdict) : Type 0 where
  pub given : v ≡ verdict 1 (agreeing b (checks script) (questions_of numbers))
  pub means : Agreement b (checks script) (questions_of numbers)

-- of a question within a tested book: 9 is that of an ask from a fresh session, and where it is not met no session's ask meets it
pub record Asks9 (b : Book) (q : Question) : Type 0 where
  pub fails : is_complete b q ≡ false → (h : Host) → scratch_least ≤ length h.scratch → call b fresh_session (ask_for h q.node q.goal) ≡ refused 9
  pub never : is_complete b q ≡ true → (s : Session) (h : Host) → ¬ (call b s (ask_for h q.node q.goal) ≡ refused 9)

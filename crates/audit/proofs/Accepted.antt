-- What an audit tells that is not refused.
use Prim.Native.Nat.{ℕ, ◌≤◌}
use mathlib.Core.Path.{◌≡◌, sym}
use mathlib.Core.Bool.{not}
use mathlib.Core.List.{List}
use lib.Dec.{ltb}
use lib.ListN.{length}
use borrow.Author.Tests.{ltb-false, eqb-true, not-false}
use Rattle.basics.specs.Text.{Text}
use Rattle.basics.specs.Outcome.{accepted}
use Rattle.basics.proofs.Bool.{or_right}
use Rattle.book.specs.Book.{Book}
use Rattle.book_contents.specs.Contents.{counts_fit}
use Rattle.book_test.proofs.Outcomes.{passed, same_answer}
use Rattle.script_checks.specs.ScriptChecks.{checks}
use Rattle.live_lines.specs.LiveLines.{script_most}
use Rattle.question_lists.specs.Questions.{questions_of}
use Rattle.audit.specs.Audit.{Verdict, agreeing, verdict, audited}

pub record Accepted (b : Book) (ns : List ℕ) (s : Text) (v : Verdict) : Type 0 where
  pub short : length s ≤ script_most
  pub even : length (checks s) ≡ length (questions_of ns)
  pub given : v ≡ verdict 1 (agreeing b (checks s) (questions_of ns))

pub not_refused : (scratch : ℕ) (b : Book) (ns : List ℕ) (s : Text) (v : Verdict) → audited scratch b ns s ≡ accepted v → Accepted b ns s v
unfolding audited
not_refused scratch b ns s v e =
    let p₁ = (passed 1 _ _ e).1 in
    let p₂ = (passed 2 _ _ p₁).1 in
    let p₃ = passed 3 _ _ p₂ in
    let p₄ = (passed 4 _ _ p₃.1).1 in
    let p₅ = (passed 5 _ _ p₄).1 in
    let p₆ = (passed 6 _ _ p₅).1 in
    let p₂₈ = (passed 28 _ _ p₆).1 in
    let p₇ = (passed 7 _ _ p₂₈).1 in
    let p₉ = (passed 9 _ _ p₇).1 in
    let p₂₅ = (passed 25 _ _ p₉).1 in
    let p₂₆ = (passed 26 _ _ p₂₅).1 in
    let p₂₇ = passed 27 _ _ p₂₆ in
    record {
      short = ltb-false script_most (length s) (or_right (not (counts_fit b)) (ltb script_most (length s)) p₃.0);
      even = eqb-true (length (checks s)) (length (questions_of ns)) (not-false _ p₂₇.0);
      given = sym (same_answer p₂₇.1);
    }

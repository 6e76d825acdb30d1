-- The check-sats of a script, by what their count says.
use Prim.Native.Nat.{ℕ}
use mathlib.Core.Path.{◌≡◌, refl, sym, ap, ◌∙◌}
use mathlib.Core.Bool.{Bool, true, false}
use mathlib.Core.List.{List}
use lib.ListN.{length}
use borrow.Author.Tests.{eq-eqb, ne_eqb}
use Rattle.basics.specs.Text.{Text}
use Rattle.basics.specs.Outcome.{accepted, refuse, ◌>>◌}
use Rattle.book.specs.Refusal.{number}
use Rattle.book.specs.declared.Refusal.TheVariants.{ForeignLine, ChecksDiffer}
use Rattle.book.specs.Book.{Book}
use Rattle.std.specs.Prelude.{Option, Some, None, Ok, Err}
use Rattle.std.proofs.lemmas.Option.{same_Some, none-some}
use Rattle.script_checks.specs.ScriptChecks.{answered, check_count, checks, is_foreign}
use Rattle.question_lists.specs.Questions.{questions_of}
use Rattle.audit.specs.Audit.{agreeing, verdict, verdict_value, audited_value}
use Rattle.audit.specs.Ladder.{checks_in}
use Rattle.audit.specs.Comparable.{Taken, Comparable}

answered_foreign : (f : Bool) (n : ℕ) → answered f n ≡ None → f ≡ true
unfolding answered
answered_foreign true n e = refl
answered_foreign false n e = absurd (none-some n (sym e))

answered_counted : (f : Bool) (k n : ℕ) → answered f k ≡ Some n → (f ≡ false) × (k ≡ n)
unfolding answered
answered_counted true k n e = absurd (none-some n e)
answered_counted false k n e = (refl, same_Some k n e)

module _ (b : Book) (ns : List ℕ) (s : Text) {d : Option ℕ} (is : d ≡ check_count s) where
  pub foreign : d ≡ None → audited_value (Err ForeignLine) ≡ checks_in b ns s
  unfolding audited_value checks_in refuse ◌>>◌ number check_count
  foreign e = rw (answered_foreign (is_foreign s) (length (checks s)) (sym is ∙ e))

  module _ {n m : ℕ} (e : d ≡ Some n) (questions : m ≡ length (questions_of ns)) where
    all_ours : (is_foreign s ≡ false) × (length (checks s) ≡ n)
    unfolding check_count
    all_ours = answered_counted (is_foreign s) (length (checks s)) n (sym is ∙ e)

    pub uneven : (n ≡ m → ⊥) → audited_value (Err ChecksDiffer) ≡ checks_in b ns s
    unfolding audited_value checks_in refuse ◌>>◌ number
    uneven h = rw (all_ours.0, all_ours.1, ← questions, ne_eqb n m h)

    module _ (same : n ≡ m) where
      pub comparable : Taken b ns s → Comparable b ns s
      comparable t =
          record { taken = t; ours = all_ours.0; even = all_ours.1 ∙ same ∙ questions }

      pub compared : (r : Option ℕ) → verdict_value r ≡ verdict 1 (agreeing b (checks s) (questions_of ns)) → audited_value (Ok r) ≡ checks_in b ns s
      unfolding audited_value checks_in refuse ◌>>◌
      compared r g = ap accepted g ∙ rw (all_ours.0, eq-eqb (length (checks s)) (length (questions_of ns)) (all_ours.1 ∙ same ∙ questions))

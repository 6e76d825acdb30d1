-- The call, by the first refusal that holds.
use Prim.Native.Nat.{ℕ, ◌≤◌, ◌<◌}
use native.Mathlib.Omega.{arith}
use mathlib.Core.Path.{◌≡◌, refl, ◌∙◌}
use mathlib.Core.Bool.{Bool, true, false, not, ◌||◌}
use mathlib.Core.List.{List}
use lib.Dec.{ltb}
use lib.ListN.{length}
use borrow.Author.Tests.{lt-ltb, le-ltb}
use Rattle.basics.specs.Text.{Text}
use Rattle.basics.specs.Lists.{all}
use Rattle.basics.specs.Buffer.{scratch_least}
use Rattle.basics.specs.Outcome.{Outcome, refused, accepted, refuse, ◌>>◌}
use Rattle.book.specs.Refusal.{number}
use Rattle.book.specs.declared.Refusal.{Refusal}
use Rattle.book.specs.declared.Refusal.TheVariants.{CountOverLimit, NotInBook, MissingAxiom, TagInBook}
use Rattle.book.specs.Book.{Book}
use Rattle.book.specs.Decode.{program}
use Rattle.book_contents.specs.Contents.{laid_out, counts_fit}
use Rattle.book_forest.specs.Forest.{is_forest}
use Rattle.book_depth.specs.Depth.{shallow}
use Rattle.book_names.specs.Names.{names_good}
use Rattle.book_test.specs.BookTest.{in_range, book_test, ready, book_test_call}
use Rattle.number_lists.specs.Numbers.{numbers}
use Rattle.live_lines.specs.LiveLines.{script_most}
use Rattle.question_lists.specs.Questions.{questions_of, is_inside, is_complete}
use Rattle.std.specs.Prelude.{Option, Result, Err}
use Rattle.audit.specs.Audit.{has_no_tag, audited, audited_value, audit_call}
use Rattle.audit.specs.Ladder.{is_long, with_script, checks_in, audit_in}

-- ---- a refusal of the book
module _ (s : Text) (why : Refusal) where
  pub kept : length s ≤ script_most → number why ≡ with_script (is_long s) (number why)
  unfolding is_long with_script
  kept h = rw (le-ltb script_most (length s) h)

  module _ (h : script_most < length s) where
    pub early : number why < number CountOverLimit → number why ≡ with_script (is_long s) (number why)
    unfolding is_long with_script number
    early l = rw (lt-ltb script_most (length s) h) (omega arith)

    pub late : number CountOverLimit ≤ number why → number CountOverLimit ≡ with_script (is_long s) (number why)
    unfolding is_long with_script number
    late l = rw (lt-ltb script_most (length s) h) (omega arith)

-- ---- the book test, with the script's 3 in its place, and what comes behind it
unfoldable pub lowered : (long : Bool) → Outcome (Unit {0}) → Outcome (Unit {0})
lowered long (refused k) = refused (with_script long k)
lowered long (accepted u) = accepted u

three_in_place : {A : Type 0} (c1 c2 c3 long c4 c5 c6 c28 : Bool) (rest : Outcome A)
    → (refuse 1 c1 >> refuse 2 c2 >> refuse 3 (c3 || long) >> refuse 4 c4 >> refuse 5 c5 >> refuse 6 c6 >> refuse 28 c28 >> rest)
    ≡ (lowered long (refuse 1 c1 >> refuse 2 c2 >> refuse 3 c3 >> refuse 4 c4 >> refuse 5 c5 >> refuse 6 c6 >> refuse 28 c28 >> accepted tt) >> refuse 3 long >> rest)
unfolding lowered refuse ◌>>◌ with_script
three_in_place true c2 c3 true c4 c5 c6 c28 rest = refl
three_in_place true c2 c3 false c4 c5 c6 c28 rest = refl
three_in_place false true c3 true c4 c5 c6 c28 rest = refl
three_in_place false true c3 false c4 c5 c6 c28 rest = refl
three_in_place false false true true c4 c5 c6 c28 rest = refl
three_in_place false false true false c4 c5 c6 c28 rest = refl
three_in_place false false false true true c5 c6 c28 rest = refl
three_in_place false false false true false true c6 c28 rest = refl
three_in_place false false false true false false true c28 rest = refl
three_in_place false false false true false false false true rest = refl
three_in_place false false false true false false false false rest = refl
three_in_place false false false false true c5 c6 c28 rest = refl
three_in_place false false false false false true c6 c28 rest = refl
three_in_place false false false false false false true c28 rest = refl
three_in_place false false false false false false false true rest = refl
three_in_place false false false false false false false false rest = refl

pub by_book_test : (n : ℕ) (b : Book) (ns : List ℕ) (s : Text) → audited n b ns s ≡ (lowered (is_long s) (ready n b) >> audit_in b ns s)
unfolding audited ready book_test audit_in checks_in is_long
by_book_test n b ns s =
    three_in_place (ltb n scratch_least) (not (laid_out b)) (not (counts_fit b)) (is_long s) (not (in_range b)) (not (is_forest b)) (not (shallow b)) (not (names_good b)) _

-- ---- the whole call
module _ (b : Book) (scratch questions : List ℕ) (s : Text) {after : List ℕ} (h : after ≡ (book_test_call b scratch).scratch) where
  pub call_stops : (r why : Refusal) → ready (length scratch) b ≡ refused (number why) → number r ≡ with_script (is_long s) (number why)
      → (audited_value (Err r) ≡ (audit_call b scratch questions s).answer) × (after ≡ (audit_call b scratch questions s).scratch)
  unfolding audit_call audited_value book_test_call lowered ◌>>◌
  call_stops r why e l = (rw (by_book_test (length scratch) b (numbers questions) s, e, l), h)

  pub call_passes : (r : Result (Option ℕ) Refusal) → ready (length scratch) b ≡ accepted tt → audited_value r ≡ audit_in b (numbers questions) s
      → (audited_value r ≡ (audit_call b scratch questions s).answer) × (after ≡ (audit_call b scratch questions s).scratch)
  unfolding audit_call book_test_call lowered ◌>>◌
  call_passes r e g = (rw (by_book_test (length scratch) b (numbers questions) s, e) g, h)

-- ---- in a book that passed its test
module _ (b : Book) (ns : List ℕ) (s : Text) where
  pub too_long : script_most < length s → audited_value (Err CountOverLimit) ≡ audit_in b ns s
  unfolding audited_value audit_in is_long refuse ◌>>◌ number
  too_long h = rw (lt-ltb script_most (length s) h)

  module _ (short : length s ≤ script_most) where
    pub outside : all (questions_of ns) (is_inside b) ≡ false → audited_value (Err NotInBook) ≡ audit_in b ns s
    unfolding audited_value audit_in is_long refuse ◌>>◌ number
    outside h = rw (le-ltb script_most (length s) short, h)

    module _ (inside : all (questions_of ns) (is_inside b) ≡ true) where
      pub incomplete : all (questions_of ns) (is_complete b) ≡ false → audited_value (Err MissingAxiom) ≡ audit_in b ns s
      unfolding audited_value audit_in is_long refuse ◌>>◌ number
      incomplete h = rw (le-ltb script_most (length s) short, inside, h)

      module _ (complete : all (questions_of ns) (is_complete b) ≡ true) where
        pub tagged : {t : Bool} → t ≡ not (all (program b).literals has_no_tag) → t ≡ true → audited_value (Err TagInBook) ≡ audit_in b ns s
        unfolding audited_value audit_in is_long refuse ◌>>◌ number
        tagged e h = rw (le-ltb script_most (length s) short, inside, complete, ← e, h)

        pub untagged : {t : Bool} (r : Result (Option ℕ) Refusal) → t ≡ not (all (program b).literals has_no_tag) → t ≡ false → audited_value r ≡ checks_in b ns s → audited_value r ≡ audit_in b ns s
        unfolding audit_in is_long refuse ◌>>◌
        untagged r e h g = g ∙ rw (le-ltb script_most (length s) short, inside, complete, ← e, h)

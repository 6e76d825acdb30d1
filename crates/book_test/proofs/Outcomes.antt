-- What a passed test tells: no refusal held, and what stands behind it was accepted.
use Prim.Native.Nat.{ℕ, ◌≤◌}
use native.Mathlib.Omega.{arith}
use mathlib.Core.Path.{◌≡◌, refl}
use mathlib.Core.Bool.{Bool, true, false, not}
use lib.Dec.{ltb}
use borrow.Author.Tests.{ltb-false, not-false}
use Rattle.basics.specs.Outcome.{Outcome, refused, accepted, refuse, ◌>>◌}
use Rattle.basics.specs.Buffer.{scratch_least}
use Rattle.book.specs.Book.{Book}
use Rattle.book_contents.specs.Contents.{laid_out, counts_fit}
use Rattle.book_forest.specs.Forest.{is_forest}
use Rattle.book_depth.specs.Depth.{shallow}
use Rattle.book_names.specs.Names.{names_good}
use Rattle.book_test.specs.BookTest.{in_range, book_test, ready}

pub passed : {A : Type 0} {a : A} (k : ℕ) (x : Bool) (rest : Outcome A) → (refuse k x >> rest) ≡ accepted a → (x ≡ false) × (rest ≡ accepted a)
unfolding refuse ◌>>◌
passed k true rest e = let z : ◌≡◌ {A = ℕ} 0 1 = cc in absurd (omega arith)
passed k false rest e = (refl, e)

-- both of two steps were accepted
pub both : {A : Type 0} {a : A} (o : Outcome (Unit {0})) (rest : Outcome A) → (o >> rest) ≡ accepted a → (o ≡ accepted tt) × (rest ≡ accepted a)
unfolding ◌>>◌
both (refused k) rest e = let z : ◌≡◌ {A = ℕ} 0 1 = cc in absurd (omega arith)
both (accepted tt) rest e = (refl, e)

pub same_answer : {A : Type 0} {x y : A} → accepted x ≡ accepted y → x ≡ y
same_answer e = cc

-- a test of the book that is refused where it fails
held : {A : Type 0} {a : A} (k : ℕ) (x : Bool) (rest : Outcome A) → (refuse k (not x) >> rest) ≡ accepted a → (x ≡ true) × (rest ≡ accepted a)
held k x rest e = let r = passed k (not x) rest e in (not-false x r.0, r.1)

pub record Passed (b : Book) : Type 0 where
  pub laid : laid_out b ≡ true
  pub counts : counts_fit b ≡ true
  pub ranges : in_range b ≡ true
  pub forest : is_forest b ≡ true
  pub depth : shallow b ≡ true
  pub names : names_good b ≡ true

pub test_passed : (b : Book) → book_test b ≡ accepted tt → Passed b
unfolding book_test
test_passed b e =
    let r2 = held 2 (laid_out b) _ e in
    let r3 = held 3 (counts_fit b) _ r2.1 in
    let r4 = held 4 (in_range b) _ r3.1 in
    let r5 = held 5 (is_forest b) _ r4.1 in
    let r6 = held 6 (shallow b) _ r5.1 in
    let r28 = held 28 (names_good b) _ r6.1 in
    record { laid = r2.0; counts = r3.0; ranges = r4.0; forest = r5.0; depth = r6.0; names = r28.0 }

pub ready_passed : (n : ℕ) (b : Book) → ready n b ≡ accepted tt → (scratch_least ≤ n) × (book_test b ≡ accepted tt)
unfolding ready
ready_passed n b e = let r = passed 1 (ltb n scratch_least) (book_test b) e in (ltb-false n scratch_least r.0, r.1)

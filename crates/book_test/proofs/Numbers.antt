-- The book test refuses with 1 to 6 and 28: never with 20, which tells of a session.
use Prim.Native.Nat.{ℕ}
use native.Mathlib.Omega.{arith}
use mathlib.Core.Bool.{not}
use lib.Dec.{ltb}
use Rattle.basics.specs.Buffer.{scratch_least}
use Rattle.basics.proofs.Refusals.{NotNumber, guarded}
use Rattle.book.specs.Book.{Book}
use Rattle.book_contents.specs.Contents.{laid_out, counts_fit}
use Rattle.book_forest.specs.Forest.{is_forest}
use Rattle.book_depth.specs.Depth.{shallow}
use Rattle.book_names.specs.Names.{names_good}
use Rattle.book_test.specs.BookTest.{in_range, book_test, ready}

pub test_not20 : (b : Book) → NotNumber 20 (book_test b)
unfolding book_test
test_not20 b =
    guarded (NotNumber 20) (λ k h. h) 2 (not (laid_out b)) _ (omega arith) λ e₂.
    guarded (NotNumber 20) (λ k h. h) 3 (not (counts_fit b)) _ (omega arith) λ e₃.
    guarded (NotNumber 20) (λ k h. h) 4 (not (in_range b)) _ (omega arith) λ e₄.
    guarded (NotNumber 20) (λ k h. h) 5 (not (is_forest b)) _ (omega arith) λ e₅.
    guarded (NotNumber 20) (λ k h. h) 6 (not (shallow b)) _ (omega arith) λ e₆.
    guarded (NotNumber 20) (λ k h. h) 28 (not (names_good b)) _ (omega arith) λ e₂₈. tt

pub ready_not20 : (scratch : ℕ) (b : Book) → NotNumber 20 (ready scratch b)
unfolding ready
ready_not20 scratch b = guarded (NotNumber 20) (λ k h. h) 1 (ltb scratch scratch_least) (book_test b) (omega arith) (λ e. test_not20 b)

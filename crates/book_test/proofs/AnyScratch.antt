-- What the scratch decides.
use Prim.Native.Nat.{ℕ, ◌≤◌}
use native.Mathlib.Omega.{arith}
use mathlib.Core.Path.{◌≡◌, refl, sym}
use mathlib.Core.List.{List}
use lib.ListN.{length}
use borrow.Author.Tests.{le-ltb}
use Rattle.basics.specs.Buffer.{scratch_least, scratch_after}
use Rattle.book.specs.Book.{Book}
use Rattle.book_test.specs.BookTest.{ready, book_test_call}
use Rattle.book_test.specs.Scratch.{book_test_from, least_of_bytes, Scratch}
use Rattle.book_test.proofs.Answers.{ready_long, zeroed}

module _ (b : Book) (s : List ℕ) where
  at_least : book_test_call b s ≡ book_test_from scratch_least b s
  unfolding book_test_call book_test_from ready scratch_after
  at_least = refl

  as_before : least_of_bytes ≤ length s → book_test_call b s ≡ book_test_from least_of_bytes b s
  unfolding book_test_call book_test_from ready scratch_after
  as_before h = rw (le-ltb (length s) scratch_least (omega arith), le-ltb (length s) least_of_bytes h)

pub any_scratch : (b : Book) → Scratch b
any_scratch b =
    record {
      answer = λ n h. sym (ready_long b n h);
      zero = λ s h. sym (zeroed s h);
      least = at_least b;
      before = as_before b;
    }

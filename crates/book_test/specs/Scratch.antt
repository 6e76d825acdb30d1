-- What the scratch decides: whether it is long enough, and nothing else.
use Rattle.std.specs.Prelude.{ℕ, ◌≤◌, ◌≡◌, List, ltb, length, replicate, if◌then◌else◌}
use Rattle.basics.specs.Outcome.{refuse, ◌>>◌}
use Rattle.basics.specs.Buffer.{scratch_least, scratch_after}
use Rattle.book.specs.Book.{Book, terms}
use Rattle.book_test.specs.BookTest.{book_test, ready, BookTested, book_test_call}

-- the call book test, with another number for the least scratch
unfoldable pub book_test_from : (least : ℕ) → Book → (scratch : List ℕ) → BookTested
book_test_from least b scratch =
    record {
      answer = refuse 1 (ltb (length scratch) least) >> book_test b;
      scratch = if ltb (length scratch) least then scratch else replicate (length scratch) 0;
    }

-- the least scratch while a mark was a byte
abbrev pub least_of_bytes : ℕ
least_of_bytes = terms.most

pub record Scratch (b : Book) : Type 0 where
  -- the answer is the book's alone, and all of the scratch is zero
  pub answer : (n : ℕ) → scratch_least ≤ n → ready n b ≡ book_test b
  pub zero : (scratch : List ℕ) → scratch_least ≤ length scratch → scratch_after scratch ≡ replicate (length scratch) 0
  -- the least is where the call differs from the earlier one, and a host that lends as much as then sees no difference
  pub least : (scratch : List ℕ) → book_test_call b scratch ≡ book_test_from scratch_least b scratch
  pub before : (scratch : List ℕ) → least_of_bytes ≤ length scratch → book_test_call b scratch ≡ book_test_from least_of_bytes b scratch

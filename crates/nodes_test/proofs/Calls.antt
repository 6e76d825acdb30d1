-- The call, by the first refusal that holds.
use Prim.Native.Nat.{ℕ, ◌≤◌, ◌<◌}
use mathlib.Core.Path.{◌≡◌}
use mathlib.Core.Bool.{true, false}
use mathlib.Core.List.{List}
use lib.ListN.{length}
use borrow.Author.Tests.{lt-ltb, le-ltb}
use Rattle.basics.specs.Outcome.{accepted, refused, refuse, ◌>>◌}
use Rattle.book.specs.Refusal.{number}
use Rattle.book.specs.declared.Refusal.{Refusal}
use Rattle.book.specs.declared.Refusal.TheVariants.{CountOverLimit, NotInBook}
use Rattle.book.specs.Book.{Book}
use Rattle.book.specs.Decode.{program}
use Rattle.book_test.specs.BookTest.{ready, book_test_call}
use Rattle.number_lists.specs.Numbers.{numbers}
use Rattle.std.specs.Prelude.{Option, Result, Ok, Err}
use Rattle.nodes_test.specs.NodesTest.{first_failing, all_inside, nodes_most, nodes_in, nodes_tested, position_value, nodes_tested_value, nodes_test_call}

-- in a book that passed its test
module _ (b : Book) (ns : List ℕ) where
  pub too_many : nodes_most < length ns → nodes_tested_value (Err CountOverLimit) ≡ nodes_in b ns
  unfolding nodes_tested_value nodes_in refuse ◌>>◌ number
  too_many h = rw (lt-ltb nodes_most (length ns) h)

  module _ (few : length ns ≤ nodes_most) where
    pub outside : all_inside b ns ≡ false → nodes_tested_value (Err NotInBook) ≡ nodes_in b ns
    unfolding nodes_tested_value nodes_in refuse ◌>>◌ number
    outside h = rw (le-ltb nodes_most (length ns) few, h)

    pub positions : (r : Option ℕ) → all_inside b ns ≡ true → position_value r ≡ first_failing (program b) ns → nodes_tested_value (Ok r) ≡ nodes_in b ns
    unfolding nodes_tested_value nodes_in refuse ◌>>◌
    positions r h e = rw (e, le-ltb nodes_most (length ns) few, h)

-- the whole call
module _ (b : Book) (scratch nodes : List ℕ) {after : List ℕ} (h : after ≡ (book_test_call b scratch).scratch) where
  pub call_stops : (why : Refusal) → ready (length scratch) b ≡ refused (number why)
      → (nodes_tested_value (Err why) ≡ (nodes_test_call b scratch nodes).answer) × (after ≡ (nodes_test_call b scratch nodes).scratch)
  unfolding nodes_test_call nodes_tested nodes_tested_value ◌>>◌ book_test_call
  call_stops why e = (rw e, h)

  pub call_passes : (r : Result (Option ℕ) Refusal) → ready (length scratch) b ≡ accepted tt → nodes_tested_value r ≡ nodes_in b (numbers nodes)
      → (nodes_tested_value r ≡ (nodes_test_call b scratch nodes).answer) × (after ≡ (nodes_test_call b scratch nodes).scratch)
  unfolding nodes_test_call nodes_tested ◌>>◌ book_test_call
  call_passes r e g = (rw e g, h)

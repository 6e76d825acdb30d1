-- A book that grew: both pass the test, the new program extends the old one, and every old term is what it was.
use Rattle.std.specs.Prelude.{ℕ, ◌<◌, ◌≡◌}
use Rattle.basics.specs.Outcome.{accepted}
use Rattle.book.specs.Book.{Book, terms, size}
use Rattle.book.specs.Extends.{Extends}
use Rattle.book.specs.Decode.{term, program}
use Rattle.book_test.specs.BookTest.{book_test}

pub record Grows (b c : Book) : Type 0 where
  pub before : book_test b ≡ accepted tt
  pub after : book_test c ≡ accepted tt
  pub extends : Extends (program b) (program c)
  pub kept : (t : ℕ) → t < size b terms → term c t ≡ term b t

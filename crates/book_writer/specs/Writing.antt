-- A call of the writer: refusals in their order, what an accepted one answers, and what the buffers hold afterwards.
use Rattle.std.specs.Prelude.{ℕ, ◌≡◌, not, List, ltb, length, take, Result, Ok, Err}
use Rattle.basics.specs.Outcome.{Outcome, refused, accepted, refuse, ◌>>◌, map_outcome}
use Rattle.basics.specs.Buffer.{buffer_after, scratch_after}
use Rattle.book.specs.Refusal.{number}
use Rattle.book.specs.Book.{Book}
use Rattle.book_test.specs.BookTest.{book_test, ready}
use Rattle.book_test.specs.Kept.{Kept}
use Rattle.book_growth.specs.Growth.{grown, grows_within}
use Rattle.book_growth.specs.Grows.{Grows}
use Rattle.book_writer.specs.Growths.{Growth, addition_of, number_of, outside, handed_right}
use Rattle.book.specs.declared.Refusal.{Refusal}
use Rattle.book_writer.specs.declared.Appended.{Appended}

-- the new record's number, and the new book
pub record Grown : Type 0 where
  pub number : ℕ
  pub book : Book

-- THE CALLS of the writer. The book as it would become is tested whole before the room for it is.
unfoldable pub grow : (scratch : ℕ) → Book → Growth → (room : ℕ) → Outcome Grown
grow scratch b g room = do
  ready scratch b
  refuse 7 (outside b g)
  refuse 3 (not (grows_within b (addition_of b g)))
  refuse 4 (not (handed_right g))
  book_test (grown b (addition_of b g))
  refuse 10 (ltb room (length (grown b (addition_of b g))))
  accepted (record { number = number_of b g; book = grown b (addition_of b g) })

-- what an accepted call keeps: the new book passes the test, every old record stands in it under its number, every old term is what it
-- was, and its program extends the old one (proved in proofs/Writing.antt, grow_kept)
pub record OldKept (b c : Book) : Type 0 where
  pub grows : Grows b c
  pub records : Kept b c

-- ---- the call whole: the answer, and what the lent buffers hold afterwards
pub record Lent : Type 0 where
  pub growth : Growth
  pub scratch : List ℕ
  pub buffer : List ℕ

pub record Numbers : Type 0 where
  pub number : ℕ
  pub length : ℕ

pub record GrownLeft : Type 0 where
  pub answer : Outcome Numbers
  pub buffer : List ℕ
  pub scratch : List ℕ

unfoldable pub numbers : Grown → Numbers
numbers x = record { number = x.number; length = length x.book }

unfoldable pub book_of : Grown → Book
book_of x = x.book

unfoldable pub grown_left : Outcome Grown → (buffer scratch : List ℕ) → GrownLeft
grown_left o buffer scratch = record { answer = map_outcome numbers o; buffer = buffer_after o book_of buffer; scratch = scratch_after scratch }

unfoldable pub outcome_of : Book → Lent → Outcome Grown
outcome_of b x = grow (length x.scratch) b x.growth (length x.buffer)

unfoldable pub grow_call : Book → Lent → GrownLeft
grow_call b x = grown_left (outcome_of b x) x.buffer x.scratch

abbrev pub lent : Growth → (scratch buffer : List ℕ) → Lent
lent g scratch buffer = record { growth = g; scratch = scratch; buffer = buffer }

-- the number and values of each answer
abbrev pub Answer : Type 0
Answer = Result Appended Refusal

unfoldable pub appended_value : Answer → Outcome Numbers
appended_value (Ok a) = accepted (record { number = a.number; length = a.length })
appended_value (Err r) = refused (number r)

-- THE CALLS' code: answer, new book's buffer and scratch are the definition's
pub record Returned (l : GrownLeft) (r : Answer) (buffer scratch : List ℕ) : Type 0 where
  pub answer : appended_value r ≡ l.answer
  pub buffer' : buffer ≡ l.buffer
  pub scratch'' : scratch ≡ l.scratch

-- ---- the books of a host that calls the writer: the newest, by the calls' outcomes, and by their answers and buffers
unfoldable pub newest : Book → Outcome Book → Book
newest b (refused k) = b
newest b (accepted c) = c

unfoldable pub write : Book → Lent → Outcome Book
write b x = map_outcome book_of (outcome_of b x)

unfoldable pub took_by : Book → Outcome Numbers → (buffer : List ℕ) → Book
took_by b (refused k) buffer = b
took_by b (accepted n) buffer = take n.length buffer

unfoldable pub took : Book → GrownLeft → Book
took b l = took_by b l.answer l.buffer

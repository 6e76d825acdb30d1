-- A tested book that grows: its terms and names stay, and its program goes on.
use Prim.Native.Nat.{ℕ, ◌+◌, ◌≤◌, ◌<◌}
use mathlib.Core.Path.{◌≡◌}
use mathlib.Core.Bool.{true}
use Rattle.basics.specs.Outcome.{accepted}
use Rattle.book.specs.Book.{Book, names, terms, lists, size, entries, name_text}
use Rattle.book.specs.Decode.{term, program}
use Rattle.book_test.specs.BookTest.{book_test}
use Rattle.book_test.proofs.Outcomes.{test_passed}
use Rattle.book_test.proofs.Promise.{promise}
use Rattle.book_test.specs.Kept.{Kept}
use Rattle.book_growth.specs.Growth.{Addition, grown, Whole, grows_within}
use Rattle.book.specs.Extends.{Extends}
use Rattle.book_growth.proofs.Grown.{grown_kept}
use Rattle.book_growth.proofs.Added.{size_axioms}
use Rattle.book_test.proofs.KeptRecords.{name_text_kept, entries_kept}
use Rattle.book_test.proofs.KeptTerms.{term_kept}
use Rattle.book_test.proofs.KeptProgram.{program_extends}

module _ (b : Book) (a : Addition) (tested : book_test b ≡ accepted tt) (whole : Whole a) (fits : grows_within b a ≡ true) where
  kept : Kept b (grown b a)
  kept = grown_kept b a (test_passed b tested).laid whole fits

  pub grown_name : (n : ℕ) → n < size b names → name_text (grown b a) n ≡ name_text b n
  grown_name = name_text_kept b (grown b a) (promise b tested) kept

  pub grown_entries : (start count : ℕ) → start + count ≤ size b lists → entries (grown b a) start count ≡ entries b start count
  grown_entries = entries_kept b (grown b a) (promise b tested) kept

  pub grown_term : (t : ℕ) → t < size b terms → term (grown b a) t ≡ term b t
  grown_term = term_kept b (grown b a) (promise b tested) kept

  pub grown_program : Extends (program b) (program (grown b a))
  grown_program = program_extends b (grown b a) (promise b tested) kept (size_axioms b a (test_passed b tested).laid whole fits)

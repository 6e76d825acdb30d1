-- The book test: the first of the refusals 1 to 6 and 28 that holds, each decided for the whole book before the next.
use Rattle.std.specs.Prelude.{ℕ, Bool, not, ◌&&◌, List, ltb, length, Result, Ok, Err}
use Rattle.basics.specs.Outcome.{Outcome, refused, accepted, refuse, ◌>>◌}
use Rattle.basics.specs.Buffer.{scratch_least, scratch_after}
use Rattle.book.specs.declared.Refusal.{Refusal}
use Rattle.book.specs.Refusal.{number}
use Rattle.book.specs.Book.{Book}
use Rattle.book_contents.specs.Contents.{laid_out, counts_fit}
use Rattle.book_fields.specs.Fields.{fields_in_range}
use Rattle.book_terms.specs.Terms.{terms_in_range}
use Rattle.book_forest.specs.Forest.{is_forest}
use Rattle.book_depth.specs.Depth.{shallow}
use Rattle.book_names.specs.Names.{names_good}

unfoldable pub in_range : Book → Bool
in_range b = fields_in_range b && terms_in_range b

unfoldable pub book_test : Book → Outcome (Unit {0})
book_test b = do
  refuse 2 (not (laid_out b))
  refuse 3 (not (counts_fit b))
  refuse 4 (not (in_range b))
  refuse 5 (not (is_forest b))
  refuse 6 (not (shallow b))
  refuse 28 (not (names_good b))
  accepted tt

-- what every call that takes a book asks first; `scratch` is the scratch buffer's length
unfoldable pub ready : (scratch : ℕ) → Book → Outcome (Unit {0})
ready scratch b = do
  refuse 1 (ltb scratch scratch_least)
  book_test b

-- the number and values of each answer
unfoldable pub tested_value : Result (Unit {0}) Refusal → Outcome (Unit {0})
tested_value (Ok u) = accepted tt
tested_value (Err r) = refused (number r)

-- THE CALL book test: its answer, and the scratch afterwards
pub record BookTested : Type 0 where
  pub answer : Outcome (Unit {0})
  pub scratch : List ℕ

unfoldable pub book_test_call : Book → (scratch : List ℕ) → BookTested
book_test_call b scratch = record { answer = ready (length scratch) b; scratch = scratch_after scratch }

use Rattle.book_writer.proofs.Answers.{test_refused, test_good}
use borrow.Author.Rules.{rules}
use Rattle.book_writer.proofs.appending.test_and_copy.Goals as goal

pub returns-in_err-book_test : goal.returns-in_err-book_test
returns-in_err-book_test c = test_refused _ _ c.requires _ _ c.in_err-book_test.ensures (search rules)

pub returns : goal.returns
returns c = test_good _ _ c.requires _ _ c.in_ok-book_test.ensures c.copy.ensures

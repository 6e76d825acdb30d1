use Rattle.book_test.proofs.Outcomes.{test_passed}
use Rattle.book_growth.proofs.Grown.{grown_most}
use Rattle.book_writer.proofs.Answers.{laid_fits, laid_part, laid_whole, laid_as}
use Rattle.book_test.proofs.Contents.{all_laid}
use Rattle.book_writer.proofs.appending.lay_out.Goals as goal

pub grow_into-length-requires : goal.grow_into-length-requires
grow_into-length-requires c = (all_laid _ (test_passed _ c.requires.0.tested).laid (test_passed _ c.requires.0.tested).counts, (test_passed _ c.requires.0.tested).laid, c.requires.1, c.requires.2)

pub slice_bounds-whole-end : goal.slice_bounds-whole-end
slice_bounds-whole-end c = laid_fits c.grow_into-length.ensures (grown_most _ _ (test_passed _ c.requires.0.tested).laid c.requires.1 c.requires.2) c.largest-whole.ensures

pub slice_bounds-test_and_copy-end : goal.slice_bounds-test_and_copy-end
slice_bounds-test_and_copy-end c = laid_part c.grow_into-length.ensures (grown_most _ _ (test_passed _ c.requires.0.tested).laid c.requires.1 c.requires.2) c.largest-whole.ensures

pub returns : goal.returns
returns c = laid_as _ _ (laid_whole c.grow_into-length.ensures (grown_most _ _ (test_passed _ c.requires.0.tested).laid c.requires.1 c.requires.2) c.largest-whole.ensures) c.test_and_copy.ensures

use Rattle.basics.proofs.Bool.{passed}
use Rattle.book_test.proofs.Outcomes.{test_passed}
use Rattle.book_test.proofs.Contents.{all_laid}
use Rattle.book_writer.proofs.Answers.{over_limit, handed_wrong, handed-right}
use Rattle.std.proofs.lemmas.Bool.{not_from_false, not_from_true}
use Rattle.book_writer.proofs.appending.append.Goals as goal

pub grows_within-requires : goal.grows_within-requires
grows_within-requires c = all_laid _ (test_passed _ c.requires.0.tested).laid (test_passed _ c.requires.0.tested).counts

pub returns-then-not-grows_within : goal.returns-then-not-grows_within
returns-then-not-grows_within c = over_limit _ _ _ _ _ _ c.grows_within.ensures (not_from_false _ c.if-not-grows_within.true)

pub returns-then-not-right : goal.returns-then-not-right
returns-then-not-right c = handed_wrong _ _ _ _ _ _ (passed c.grows_within.ensures (not_from_true _ c.if-not-grows_within.false)) (not_from_false _ c.if-not-right.true)

pub lay_out-requires : goal.lay_out-requires
lay_out-requires c = (c.requires.0, c.requires.1, passed c.grows_within.ensures (not_from_true _ c.if-not-grows_within.false))

pub returns : goal.returns
returns c = handed-right _ _ _ _ _ _ (passed c.grows_within.ensures (not_from_true _ c.if-not-grows_within.false)) (not_from_true _ c.if-not-right.false) c.lay_out.ensures

use Rattle.book_writer.proofs.Fields.{first_wrong, second_decides}
use Rattle.std.proofs.lemmas.Bool.{not_from_false, not_from_true}
use Rattle.book_writer.proofs.terms.term_right.Goals as goal

pub returns-then-not-range_right : goal.returns-then-not-range_right
returns-then-not-range_right c = first_wrong _ _ _ _ c.range_right.ensures (not_from_false _ c.if-not-range_right.true)

pub returns : goal.returns
returns c = second_decides _ _ _ _ c.range_right.ensures (not_from_true _ c.if-not-range_right.false) c.range_right-2.ensures

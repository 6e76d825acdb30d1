use Rattle.book_writer.proofs.Fields.{right_none, right_start, right_count, right_whole}
use Rattle.std.proofs.lemmas.Bool.{not_from_false, not_from_true}
use Rattle.book_writer.proofs.terms.range_right.Goals as goal

pub returns-then-not-ranged : goal.returns-then-not-ranged
returns-then-not-ranged c = right_none _ _ _ _ (not_from_false _ c.if-not-ranged.true)

pub returns-then-start-ne0 : goal.returns-then-start-ne0
returns-then-start-ne0 c = right_start _ _ _ _ (not_from_true _ c.if-not-ranged.false) c.if-start-ne0.true

pub returns-then-entries-ne0 : goal.returns-then-entries-ne0
returns-then-entries-ne0 c = right_count _ _ _ _ (not_from_true _ c.if-not-ranged.false) c.if-start-ne0.false c.if-entries-ne0.true

pub returns : goal.returns
returns c = right_whole _ _ _ _ (not_from_true _ c.if-not-ranged.false) c.if-start-ne0.false c.if-entries-ne0.false

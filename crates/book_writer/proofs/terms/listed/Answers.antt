use Rattle.book_writer.proofs.Fields.{listed_none, listed_some}
use Rattle.std.proofs.lemmas.Bool.{not_from_false, not_from_true}
use Rattle.book_writer.proofs.terms.listed.Goals as goal

pub returns-then-not-ranged : goal.returns-then-not-ranged
returns-then-not-ranged c = listed_none _ _ (not_from_false _ c.if-not-ranged.true)

pub returns : goal.returns
returns c = listed_some _ _ (not_from_true _ c.if-not-ranged.false)

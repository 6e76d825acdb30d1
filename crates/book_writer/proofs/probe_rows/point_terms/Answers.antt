use mathlib.Core.Path.{refl, ◌∙◌}
use Rattle.book_writer.proofs.Fields.{terms_done}
use Rattle.book_writer.proofs.probe_rows.point_terms.Goals as goal

pub returns : goal.returns
returns c = c.filled.ensures ∙ terms_done _ _ _ c.count.ensures.is c.count-2.ensures.is c.equality-equal.ensures refl c.put_true-next.ensures c.put_at-length.ensures

use native.Mathlib.Omega.{arith}
use Rattle.book_writer.proofs.Fields.{equality_point, equality_term}
use Rattle.book_writer.proofs.probe_rows.point_equality.Goals as goal

pub returns-in-Some : goal.returns-in-Some
returns-in-Some c = rw c.in-Some.is (equality_term _ _ c.count-terms.ensures.is (omega (arith, c.count-terms.ensures.is, c.requires.terms_laid.few)))

pub returns-in-None : goal.returns-in-None
returns-in-None c = rw c.in-None.is (equality_point _ c.count-terms.ensures.is (omega (arith, c.count-terms.ensures.is, c.requires.terms_laid.few)))

use native.Mathlib.Omega.{arith}
use Rattle.book_writer.proofs.Additions.{traced_some, traced_none}
use Rattle.book_writer.proofs.extending.traced.Goals as goal

pub returns-in-Some : goal.returns-in-Some
returns-in-Some c = rw c.in-Some.is (traced_some _ c.in-Some.trace c.named-name.ensures c.then_some.ensures)

pub returns-in-None : goal.returns-in-None
returns-in-None c = rw c.in-None.is (traced_none _)

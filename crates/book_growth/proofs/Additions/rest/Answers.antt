use native.Mathlib.Omega.{arith}
use Rattle.book_growth.specs.Parts.{rest}
use Rattle.book_growth.proofs.Parts.{rest_else}
use Rattle.book_growth.proofs.Additions.rest.Goals as goal

pub returns-in-0 : goal.returns-in-0
unfolding rest
returns-in-0 c = rw c.in-0.is

pub returns-in-9 : goal.returns-in-9
unfolding rest
returns-in-9 c = rw c.in-9.is

pub returns-in_default : goal.returns-in_default
returns-in_default c = rest_else c.args.self.now c.args.section c.requires (omega arith) (omega arith)

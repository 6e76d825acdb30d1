use native.Mathlib.Omega.{arith}
use Rattle.book_growth.specs.Parts.{part}
use Rattle.book_growth.proofs.Parts.{part_else}
use Rattle.book_growth.proofs.Additions.part.Goals as goal

pub returns-in-0 : goal.returns-in-0
unfolding part
returns-in-0 c = rw c.in-0.is

pub returns-in-1 : goal.returns-in-1
unfolding part
returns-in-1 c = rw c.in-1.is

pub returns-in-3 : goal.returns-in-3
unfolding part
returns-in-3 c = rw c.in-3.is

pub returns-in-7 : goal.returns-in-7
unfolding part
returns-in-7 c = rw c.in-7.is

pub returns-in-8 : goal.returns-in-8
unfolding part
returns-in-8 c = rw c.in-8.is

pub returns-in-9 : goal.returns-in-9
unfolding part
returns-in-9 c = rw c.in-9.is

pub returns-in_default : goal.returns-in_default
returns-in_default c = part_else c.args.self.now c.args.section c.requires (omega arith) (omega arith) (omega arith) (omega arith) (omega arith) (omega arith)

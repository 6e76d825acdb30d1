use native.Mathlib.Omega.{arith}
use borrow.Author.Rules.{rules}
use Rattle.book_writer.specs.Growths.{ranges_of}
use Rattle.book_writer.proofs.Fields.{ranges_other}
use Rattle.book_writer.proofs.terms.ranges_of.Goals as goal

pub returns-then-kind : goal.returns-then-kind
unfolding ranges_of
returns-then-kind c = rw c.if-kind.true

pub returns-then-kind-2 : goal.returns-then-kind-2
unfolding ranges_of
returns-then-kind-2 c = rw c.if-kind-2.true

pub returns-then-kind-3 : goal.returns-then-kind-3
unfolding ranges_of
returns-then-kind-3 c = rw c.if-kind-3.true

pub returns : goal.returns
returns c = ranges_other _ c.if-kind.false c.if-kind-2.false c.if-kind-3.false

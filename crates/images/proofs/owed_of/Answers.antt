use Rattle.images.proofs.Reading.{owed_other}
use Rattle.solvers.specs.Image.{owed_of}
use borrow.Author.Rules.{rules}
use Rattle.images.proofs.owed_of.Goals as goal

pub returns-in-1 : goal.returns-in-1
unfolding owed_of
returns-in-1 c = search rules

pub returns-in-2 : goal.returns-in-2
unfolding owed_of
returns-in-2 c = search rules

pub returns-in_default : goal.returns-in_default
returns-in_default c = owed_other _ c.in_default.in_default-own.rest.0.1 c.in_default.in_default-own.rest.1

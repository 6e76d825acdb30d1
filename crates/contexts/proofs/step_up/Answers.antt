use borrow.Author.Tests.{lt-ltb, le-ltb}
use Rattle.contexts.specs.Path.{one_up}
use Rattle.contexts.proofs.step_up.Goals as goal

pub returns-then-at : goal.returns-then-at
unfolding one_up
returns-then-at c = simp (lt-ltb _ _ c.if-at.true) (cc)

pub returns : goal.returns
unfolding one_up
returns c = simp (le-ltb _ _ c.if-at.false) (cc)

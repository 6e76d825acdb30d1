use mathlib.Core.Path.{refl}
use borrow.Author.Tests.{eq-eqb, ne_eqb}
use Rattle.solvers.specs.Returned.{heard}
use Rattle.leskofar.proofs.session_calls.checked.Goals as goal

pub returns-then-ok-ne0 : goal.returns-then-ok-ne0
unfolding heard
returns-then-ok-ne0 c = (rw (ne_eqb c.args.ok 0 c.if-ok-ne0.true), refl)

pub returns-else-ok-ne0 : goal.returns-else-ok-ne0
unfolding heard
returns-else-ok-ne0 c = (rw (eq-eqb c.args.ok 0 c.if-ok-ne0.false), refl)

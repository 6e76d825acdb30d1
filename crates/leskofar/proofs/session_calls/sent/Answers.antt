use borrow.Author.Tests.{eq-eqb, ne_eqb}
use Rattle.basics.specs.Text.{given}
use Rattle.solvers.specs.Returned.{lent_text}
use Rattle.leskofar.proofs.session_calls.sent.Goals as goal

pub returns-then-came-ne0 : goal.returns-then-came-ne0
unfolding lent_text given
returns-then-came-ne0 c = rw (ne_eqb c.args.came 0 c.if-came-ne0.true)

pub returns-else-came-ne0 : goal.returns-else-came-ne0
unfolding lent_text given
returns-else-came-ne0 c = rw (eq-eqb c.args.came 0 c.if-came-ne0.false)

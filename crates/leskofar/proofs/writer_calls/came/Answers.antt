use borrow.Author.Tests.{eq-eqb, ne_eqb}
use Rattle.basics.specs.Text.{given}
use Rattle.name_search.specs.Names.{maybe}
use Rattle.leskofar.proofs.writer_calls.came.Goals as goal

pub returns-then-traced-eq0 : goal.returns-then-traced-eq0
unfolding maybe given
returns-then-traced-eq0 c = rw (eq-eqb c.args.traced 0 c.if-traced-eq0.true)

pub returns-else-traced-eq0 : goal.returns-else-traced-eq0
unfolding maybe given
returns-else-traced-eq0 c = rw (ne_eqb c.args.traced 0 c.if-traced-eq0.false)

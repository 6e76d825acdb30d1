use Rattle.walk.proofs.Axioms.{new_symbols}
use Rattle.walk.proofs.cycle.declare_new_symbols.Goals as goal

pub returns : goal.returns
returns c = new_symbols _ _ c.nothing-none.ensures c.walk_term.ensures

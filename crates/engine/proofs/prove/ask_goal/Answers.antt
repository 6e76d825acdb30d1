use mathlib.Core.Path.{refl}
use Rattle.engine.proofs.Entering.{ready}
use Rattle.engine.proofs.Asking.{asked}
use Rattle.engine.proofs.prove.ask_goal.Goals as goal

pub declare_new_symbols-done-requires : goal.declare_new_symbols-done-requires
declare_new_symbols-done-requires c = (ready c.requires.promise _ c.requires.level c.requires.state.levels, c.requires.goal)

pub returns : goal.returns
returns c = asked c.requires.promise _ _ c.requires.level c.requires.state.levels c.requires.state.missing c.declare_new_symbols-done.ensures c.well_formed.1.1.1.1.1.1.0.0 c.push.ensures c.declared_count-tag.ensures c.push-denied.ensures c.assume_not-asserted.ensures c.check_sat-at.ensures refl

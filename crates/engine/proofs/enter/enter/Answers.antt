use mathlib.Core.Path.{refl}
use Rattle.engine.proofs.Entering.{ready, term_here, entered}
use Rattle.engine.proofs.enter.enter.Goals as goal

pub declare_new_symbols-done-requires : goal.declare_new_symbols-done-requires
declare_new_symbols-done-requires c = (ready c.requires.promise _ c.requires.level c.requires.state.levels, term_here _ c.requires.promise _ _ c.requires.below c.requires.inside c.field-t.ensures.is)

pub returns : goal.returns
returns c = entered _ c.requires.promise _ _ c.requires.below c.requires.inside c.field-t.ensures.is c.requires.level (record { levels = c.requires.state.levels; missing = c.requires.state.missing }) c.declare_new_symbols-done.ensures _ c.well_formed.1.1.1.1.1.0.0 c.push.ensures c.declared_count-tag.ensures c.assume-at.ensures refl

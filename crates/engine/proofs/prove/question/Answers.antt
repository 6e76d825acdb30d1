use native.Mathlib.Omega.{arith}
use Rattle.engine.proofs.Entering.{few_deep}
use Rattle.engine.proofs.Asking.{questioned, levels_long}
use Rattle.engine.proofs.prove.question.Goals as goal

pub overflow_add-level : goal.overflow_add-level
overflow_add-level c = omega (arith, c.depth_of-level.ensures, few_deep c.requires.promise _ c.requires.to)

pub copy-inner-requires : goal.copy-inner-requires
copy-inner-requires c = levels_long c.requires.promise _ c.set_context-moved.ensures.state.levels

pub overflow_cast-level : goal.overflow_cast-level
overflow_cast-level c = omega (arith, c.depth_of-level.ensures, few_deep c.requires.promise _ c.requires.to)

pub returns : goal.returns
returns c = questioned _ _ _ c.well_formed.1.1.1.1.1.0.0 c.set_context-moved.ensures c.ask_goal.ensures

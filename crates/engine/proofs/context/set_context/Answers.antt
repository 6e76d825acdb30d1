use mathlib.Core.Path.{refl}
use native.Mathlib.Omega.{arith}
use Rattle.engine.proofs.Moving.{few_pops, few_kept, downward, reached}
use Rattle.engine.proofs.context.set_context.Goals as goal

pub overflow_sub-shared : goal.overflow_sub-shared
overflow_sub-shared c = omega (arith, c.depth_of.ensures, few_pops c.requires.promise _ _ c.pops-count.ensures.0)

pub overflow_sub-below : goal.overflow_sub-below
overflow_sub-below c = omega (arith, c.depth_of.ensures, c.depth_of-2.ensures, few_pops c.requires.promise _ _ c.pops-count.ensures.0, few_kept c.requires.promise _ _ c.pops-count.ensures.0)

pub descend-requires : goal.descend-requires
descend-requires c = downward c.requires.promise _ _ c.pops-count.ensures.0 _ c.requires.to c.requires.levels c.requires.clear (rw (← c.depth_of.ensures) c.clear_above.ensures) (rw (← c.depth_of.ensures, ← c.depth_of-2.ensures) refl) refl

pub returns : goal.returns
returns c = reached c.requires.promise _ _ c.pops-count.ensures.0 c.well_formed.1.1.1.1.0.0 (rw (← c.depth_of.ensures, ← c.depth_of-2.ensures) refl) c.pop_times.ensures c.descend.ensures

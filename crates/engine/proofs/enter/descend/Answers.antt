use native.Mathlib.Omega.{arith}
use mathlib.Core.Path.{◌∙◌}
use Rattle.engine.proofs.Descending.{descending_start, next_above, descending_more}
use Rattle.engine.proofs.Entering.{depth_is}
use Rattle.engine.proofs.enter.descend.Goals as goal

pub loop-k-init : goal.loop-k-init
loop-k-init c = descending_start _ _ _ _ (omega arith) c.requires.state

pub overflow_sub-level : goal.overflow_sub-level
overflow_sub-level c = let d = depth_is _ _ (c.as_slice-nodes.ensures.value ∙ c.path_of-path.ensures.is) in omega (arith, d, c.requires.few, c.loop-k.invariant.few)

pub offset_bounds-nodes-k : goal.offset_bounds-nodes-k
offset_bounds-nodes-k c = let d = depth_is _ _ (c.as_slice-nodes.ensures.value ∙ c.path_of-path.ensures.is) in omega (arith, d, c.requires.few, c.loop-k.invariant.few)

pub bounds-nodes-k : goal.bounds-nodes-k
bounds-nodes-k c = let d = depth_is _ _ (c.as_slice-nodes.ensures.value ∙ c.path_of-path.ensures.is) in omega (arith, d, c.requires.few, c.loop-k.invariant.few)

pub enter-done-requires : goal.enter-done-requires
enter-done-requires c =
    let is = c.as_slice-nodes.ensures.value ∙ c.path_of-path.ensures.is in
    let d = depth_is _ _ is in
    next_above _ c.requires.promise _ c.requires.inside _ _ is c.requires.few (omega arith) c.loop-k.invariant (omega (arith, d))

pub loop-k-preserved : goal.loop-k-preserved
loop-k-preserved c =
    descending_more _ c.requires.promise _ c.requires.inside _ _ (c.as_slice-nodes.ensures.value ∙ c.path_of-path.ensures.is) c.requires.few (omega arith) c.loop-k.invariant (omega arith)
    c.enter-done.ensures

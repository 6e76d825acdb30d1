use native.Mathlib.Omega.{arith}
use Rattle.std.proofs.lemmas.List.{nil_from_length}
use Rattle.contexts.proofs.FromRoot.{on_path}
use Rattle.listing.proofs.Premises.{printing_start, printing_more, printing_done}
use Rattle.listing.proofs.print_context.Goals as goal

pub loop-below-init : goal.loop-below-init
loop-below-init c = printing_start _ _ _ (rw (c.into_iter-below-iterator.ensures.into_iter_gives, c.rev-below-items.ensures.source, c.iter.ensures.rest, c.as_slice.ensures.value) c.path_of-path.ensures.is) (omega arith)

pub put_premise-done-requires : goal.put_premise-done-requires
put_premise-done-requires c = let w = c.loop-below.invariant in on_path _ c.requires.promise _ c.requires.inside _ _ _ (rw c.in-Some.ensures.steps at w.is)

pub loop-below-preserved : goal.loop-below-preserved
loop-below-preserved c = printing_more _ (omega arith) (rw c.in-Some.ensures.steps at c.loop-below.invariant) c.put_premise-done.ensures

pub returns : goal.returns
returns c = printing_done (nil_from_length _ c.in-None.ensures.steps.0) c.loop-below.invariant

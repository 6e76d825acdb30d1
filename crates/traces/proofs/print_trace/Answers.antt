use native.Mathlib.Omega.{arith}
use Rattle.std.proofs.lemmas.List.{nil_from_length}
use Rattle.contexts.proofs.FromRoot.{on_path}
use Rattle.rsolver.specs.Trace.{print_trace}
use Rattle.traces.proofs.Printing.{printing_start, printing_more, printing_done}
use Rattle.traces.proofs.print_trace.Goals as goal

pub loop-below-init : goal.loop-below-init
loop-below-init c = printing_start _ _ _ (rw (c.into_iter-below-iterator.ensures.into_iter_gives, c.rev-below-items.ensures.source, c.iter.ensures.rest, c.as_slice.ensures.value) c.path_of-path.ensures.is)

pub trace_line-line-requires : goal.trace_line-line-requires
trace_line-line-requires c = let w = c.loop-below.invariant in on_path _ c.requires.promise _ c.requires.inside _ _ _ (rw c.in-Some.ensures.steps at w.is)

pub loop-below-preserved : goal.loop-below-preserved
loop-below-preserved c = printing_more _ (omega arith) (rw c.in-Some.ensures.steps at c.loop-below.invariant) c.clip-k.ensures c.trace_line-line.ensures c.sum-written.ensures

pub returns : goal.returns
unfolding print_trace
returns c = printing_done (nil_from_length _ c.in-None.ensures.steps.0) c.loop-below.invariant

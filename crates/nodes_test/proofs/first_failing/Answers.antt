use native.Mathlib.Omega.{arith}
use Rattle.nodes_test.proofs.Inside.{inside_at}
use Rattle.nodes_test.proofs.Failing.{moving_start, moving_on, moving_wide, moving_more, moving_stop, moving_done}
use Rattle.nodes_test.proofs.first_failing.Goals as goal

pub loop-i-init : goal.loop-i-init
loop-i-init c = moving_start _ _ c.blank-levels.ensures

pub number_at-node-requires : goal.number_at-node-requires
number_at-node-requires c = omega (arith, c.number_count-i-end.ensures, c.loop-i-test.true)

pub slice_bounds-set_context-end : goal.slice_bounds-set_context-end
slice_bounds-set_context-end c = moving_wide _ _ c.requires.promise c.loop-i.invariant

pub set_context-done-requires : goal.set_context-done-requires
set_context-done-requires c = moving_on _ _ c.requires.promise c.loop-i.invariant (inside_at _ _ c.requires.inside c.number_at-node.ensures (omega (arith, c.number_count-i-end.ensures, c.loop-i-test.true)))

pub returns-then-done : goal.returns-then-done
returns-then-done c = moving_stop _ _ c.loop-i.invariant c.number_at-node.ensures c.set_context-done.ensures.state c.if-done.true (omega (arith, c.number_count-i-end.ensures, c.loop-i-test.true))

pub loop-i-preserved : goal.loop-i-preserved
loop-i-preserved c = moving_more _ _ c.loop-i.invariant c.number_at-node.ensures c.set_context-done.ensures.state c.if-done.false (omega (arith, c.number_count-i-end.ensures, c.loop-i-test.true)) (inside_at _ _ c.requires.inside c.number_at-node.ensures (omega (arith, c.number_count-i-end.ensures, c.loop-i-test.true)))

pub returns : goal.returns
returns c = moving_done _ _ c.loop-i.invariant (omega (arith, c.number_count-i-end.ensures, c.loop-i-test.false))

use Rattle.contexts.proofs.Climb.{climbing_start, climbing_room, climbing_more, climbing_done}
use native.Mathlib.Omega.{arith}
use Rattle.contexts.proofs.path_of.Goals as goal

pub loop-n-init : goal.loop-n-init
loop-n-init c = rw c.new-path.ensures (climbing_start _ c.requires.promise _ c.requires.inside)

pub push-requires : goal.push-requires
push-requires c = (omega arith, climbing_room c.requires.promise c.loop-n-test.true c.loop-n.invariant)

pub parent-n-requires : goal.parent-n-requires
parent-n-requires c = record { promise = c.requires.promise; inside = c.loop-n.invariant.inside; below = c.loop-n-test.true }

pub loop-n-smaller : goal.loop-n-smaller
loop-n-smaller c = c.parent-n.ensures.smaller

pub loop-n-preserved : goal.loop-n-preserved
loop-n-preserved c = rw c.push.ensures.items (climbing_more _ c.requires.promise c.loop-n-test.true c.loop-n.invariant c.parent-n.ensures.is)

pub returns : goal.returns
returns c = record { is = climbing_done (omega (arith, c.loop-n-test.false)) c.loop-n.invariant; few = omega (arith, c.loop-n.invariant.room) }

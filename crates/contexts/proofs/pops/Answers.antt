use native.Mathlib.Omega.{arith}
use Rattle.contexts.proofs.Shared.{rising_more, rising_done}
use Rattle.contexts.proofs.pops.Goals as goal

pub loop-at-init : goal.loop-at-init
loop-at-init c = record { from = c.requires.from; to = c.requires.to; few = omega arith; left = omega arith }

pub step_up-at-requires : goal.step_up-at-requires
step_up-at-requires c = record { promise = c.requires.promise; from = c.loop-at.invariant.from; to = c.loop-at.invariant.to; few = omega (arith, c.loop-at.invariant.few, c.requires.from); apart = c.loop-at-test.true }

pub loop-at-smaller : goal.loop-at-smaller
loop-at-smaller c = rw c.step_up-at.ensures (rising_more _ c.requires.promise _ _ _ c.loop-at.invariant c.loop-at-test.true).1

pub loop-at-preserved : goal.loop-at-preserved
loop-at-preserved c = rw c.step_up-at.ensures (rising_more _ c.requires.promise _ _ _ c.loop-at.invariant c.loop-at-test.true).0

pub returns : goal.returns
returns c = (rising_done _ c.requires.promise _ _ _ c.loop-at.invariant c.loop-at-test.false, omega (arith, c.loop-at.invariant.few))

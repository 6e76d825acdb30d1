use mathlib.Core.Path.{refl}
use Prim.Native.Nat.{◌+◌}
use native.Mathlib.Omega.{arith}
use Rattle.basics.proofs.Stepping.{joined, eight_alike, eight_differs, all_alike}
use Rattle.basics.proofs.letters.same_long.Goals as goal

pub returns-then-eight : goal.returns-then-eight
returns-then-eight c = eight_differs c.args.a.now c.args.b.now _ c.eight.ensures c.eight-2.ensures c.if-eight.true

pub loop-i-init : goal.loop-i-init
loop-i-init c = (omega arith, c.requires.0, omega arith, λ k l m. absurd (omega arith), eight_alike c.args.a.now c.args.b.now _ _ refl c.eight.ensures c.eight-2.ensures c.if-eight.false)

pub eight-requires-in-loop-i : goal.eight-requires-in-loop-i
eight-requires-in-loop-i c = omega (arith, c.loop-i.invariant.0)

pub eight-requires-in-loop-i-2 : goal.eight-requires-in-loop-i-2
eight-requires-in-loop-i-2 c = omega (arith, c.loop-i.invariant.0, c.loop-i.invariant.1)

pub returns-then-eight-2 : goal.returns-then-eight-2
returns-then-eight-2 c = eight_differs c.args.a.now c.args.b.now _ c.eight-in-loop-i.ensures c.eight-in-loop-i-2.ensures c.if-eight-2.true

pub loop-i-smaller : goal.loop-i-smaller
loop-i-smaller c = omega (arith, c.loop-i.invariant.2)

pub loop-i-preserved : goal.loop-i-preserved
loop-i-preserved c = (c.loop-i.invariant.0, c.loop-i.invariant.1, omega arith, joined c.args.a.now c.args.b.now _ _ _ c.loop-i.invariant.3 (eight_alike c.args.a.now c.args.b.now _ _ refl c.eight-in-loop-i.ensures c.eight-in-loop-i-2.ensures c.if-eight-2.false), c.loop-i.invariant.4)

pub returns-else-eight : goal.returns-else-eight
returns-else-eight c = all_alike c.args.a.now c.args.b.now _ c.loop-i.invariant.1 (omega (arith, c.loop-i.invariant.0)) (joined c.args.a.now c.args.b.now _ c.loop-i.i _ c.loop-i.invariant.3 (λ k l m. c.loop-i.invariant.4 k (omega arith) m))

pub returns-else-eight-2 : goal.returns-else-eight-2
returns-else-eight-2 c =
    let front = joined c.args.a.now c.args.b.now _ _ _ c.loop-i.invariant.3 (eight_alike c.args.a.now c.args.b.now _ _ refl c.eight-in-loop-i.ensures c.eight-in-loop-i-2.ensures c.if-eight-2.false) in
    all_alike c.args.a.now c.args.b.now _ c.loop-i.invariant.1 (omega (arith, c.loop-i.invariant.0)) (joined c.args.a.now c.args.b.now _ (c.loop-i.i + 8) _ front (λ k l m. c.loop-i.invariant.4 k (omega (arith, l)) m))

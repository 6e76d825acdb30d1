use mathlib.Core.Path.{refl}
use native.Mathlib.Omega.{arith}
use lib.ListN.{length-set}
use Rattle.basics.proofs.Writing.{begun, begun_more, begun_all}
use borrow.Author.Rules.{rules}
use Rattle.basics.proofs.write.put_all.Goals as goal

pub loop-i-init : goal.loop-i-init
loop-i-init c = (c.clip-i-end.ensures, begun c.args.text.now _, refl)

pub loop-i-preserved : goal.loop-i-preserved
loop-i-preserved c =
    let end = c.loop-i.invariant.0 in (end, begun_more _ _ _ c.loop-i.invariant.1 (omega (arith, end, c.loop-i-test.true)) (omega (arith, end, c.loop-i-test.true)), simp length-set c.loop-i.invariant.2)

pub returns : goal.returns
returns c = begun_all _ _ c.loop-i.i _ c.loop-i.invariant.1 (omega (arith, c.loop-i.invariant.0, c.loop-i-test.false)) (search rules)

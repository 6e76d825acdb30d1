use native.Mathlib.Omega.{arith}
use Rattle.std.proofs.lemmas.Bool.{not_from_false, not_from_true}
use Rattle.basics.proofs.Loops.{all_none, all_more, all_stop, all_done}
use Rattle.book_growth.specs.Growth.{grows_within}
use Rattle.book_growth.proofs.Within.{each_laid}
use Rattle.book_growth.proofs.grows_within.Goals as goal

pub loop-section-init : goal.loop-section-init
loop-section-init c = all_none _

pub grows_by-requires : goal.grows_by-requires
grows_by-requires c = (omega arith, each_laid c.requires c.loop-section.section (omega arith))

pub returns-then-not-grows_by : goal.returns-then-not-grows_by
unfolding grows_within
returns-then-not-grows_by c = all_stop _ 10 c.loop-section.section c.grows_by.ensures (not_from_false _ c.if-not-grows_by.true) (omega arith)

pub loop-section-preserved : goal.loop-section-preserved
loop-section-preserved c = all_more _ _ c.loop-section.invariant c.grows_by.ensures (not_from_true _ c.if-not-grows_by.false)

pub returns : goal.returns
unfolding grows_within
returns c = all_done _ 10 c.loop-section.section c.loop-section.invariant (omega arith)

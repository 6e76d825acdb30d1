use native.Mathlib.Omega.{arith}
use mathlib.Core.Path.{refl, ◌∙◌}
use Rattle.basics.proofs.Places.{at_length}
use Rattle.book_layout.proofs.Coded.{begun, begun_more, begun_fits, begun_all}
use Rattle.book_layout.proofs.put_table.Goals as goal

pub loop-n-init : goal.loop-n-init
loop-n-init c = (begun _ _, refl)

pub overflow_mul-start : goal.overflow_mul-start
overflow_mul-start c = omega (arith, begun_fits c.requires c.loop-n.invariant.0 (omega arith))

pub overflow_add-start : goal.overflow_add-start
overflow_add-start c = omega (arith, begun_fits c.requires c.loop-n.invariant.0 (omega arith))

pub loop-n-preserved : goal.loop-n-preserved
loop-n-preserved c = (begun_more c.requires c.loop-n.invariant.0 (omega arith) c.well_formed.1.0.0 c.put_entry-at.ensures, at_length c.put_entry-at.ensures ∙ c.loop-n.invariant.1)

pub shape_of-out : goal.shape_of-out
shape_of-out c = c.loop-n.invariant.1

pub returns : goal.returns
returns c = begun_all c.requires c.loop-n.invariant.0 (omega arith)

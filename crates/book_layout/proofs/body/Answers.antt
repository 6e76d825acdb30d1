use native.Mathlib.Omega.{arith}
use Rattle.book_layout.proofs.Coded.{contents_end, body_end, body-part}
use Rattle.book_layout.proofs.body.Goals as goal

pub offset-start-requires : goal.offset-start-requires
offset-start-requires c = (c.requires.0, contents_end c.requires.0 c.requires.1)

pub count-requires : goal.count-requires
count-requires c = (c.requires.0, contents_end c.requires.0 c.requires.1)

pub overflow_mul-end : goal.overflow_mul-end
overflow_mul-end c = omega (arith, body_end c.requires.0 c.requires.1 c.offset-start.ensures c.count.ensures)

pub overflow_add-end : goal.overflow_add-end
overflow_add-end c = omega (arith, body_end c.requires.0 c.requires.1 c.offset-start.ensures c.count.ensures)

pub slice_bounds-result-end : goal.slice_bounds-result-end
slice_bounds-result-end c = body_end c.requires.0 c.requires.1 c.offset-start.ensures c.count.ensures

pub returns : goal.returns
returns c = body-part c.requires.0 c.requires.1 c.offset-start.ensures c.count.ensures

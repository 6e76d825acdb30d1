use native.Mathlib.Omega.{arith}
use Rattle.book.proofs.Sections.{tabled}
use Rattle.book_layout.proofs.Coded.{contents_end, size_there}
use Rattle.book_growth.proofs.Parts.{both_told}
use Rattle.book_growth.proofs.Within.{within_by}
use Rattle.book_growth.proofs.grows_by.Goals as goal

pub nonzero_div-result : goal.nonzero_div-result
nonzero_div-result c = size_there c.requires.0

pub count-requires : goal.count-requires
count-requires c = (c.requires.0, contents_end c.requires.0 c.requires.1)

pub overflow_sub-result : goal.overflow_sub-result
overflow_sub-result c = omega (arith, c.count.ensures.is, c.requires.1.few, (tabled c.args.section c.requires.0).most)

pub returns : goal.returns
returns c = within_by _ _ _ c.requires.0 _ _ (both_told _ c.requires.0 c.part.ensures c.rest.ensures) c.requires.1 c.count.ensures c.sum-bytes.ensures

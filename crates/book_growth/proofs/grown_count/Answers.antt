use native.Mathlib.Omega.{arith}
use Rattle.book_layout.proofs.Coded.{contents_end, size_there, limit_fits, more_are}
use Rattle.book_growth.specs.Parts.{addition_by, grown_count}
use Rattle.book_growth.proofs.Parts.{both_told}
use Rattle.book_growth.proofs.Within.{grown_counted}
use Rattle.book_growth.proofs.grown_count.Goals as goal

pub count-requires : goal.count-requires
count-requires c = (c.requires.0, contents_end c.requires.0 c.requires.1)

pub nonzero_div-result : goal.nonzero_div-result
nonzero_div-result c = size_there c.requires.0

pub overflow_add-result : goal.overflow_add-result
overflow_add-result c = omega (arith, grown_counted c.args.book.now (addition_by c.args.more.now) c.args.section c.requires.0 c.part.result.now c.rest.result.now (both_told c.args.more.now c.requires.0 c.part.ensures c.rest.ensures) c.count.ensures, c.requires.2, limit_fits c.args.section c.requires.0)

pub returns : goal.returns
unfolding grown_count
returns c = grown_counted _ _ _ c.requires.0 _ _ (both_told _ c.requires.0 c.part.ensures c.rest.ensures) c.count.ensures

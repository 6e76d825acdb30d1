use Rattle.book_terms.specs.Terms.{is_zero}
use Rattle.book_terms.proofs.is_zero.Goals as goal

pub returns : goal.returns
unfolding is_zero
returns c = cc

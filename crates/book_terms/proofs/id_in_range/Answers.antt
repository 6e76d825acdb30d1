use Rattle.book_terms.specs.Terms.{kind_in_range}
use Rattle.book_fields.specs.Fields.{within}
use Rattle.book_terms.proofs.id_in_range.Goals as goal

pub returns : goal.returns
unfolding kind_in_range within
returns c = cc

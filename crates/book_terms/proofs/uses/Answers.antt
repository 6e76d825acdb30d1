use borrow.Author.Rules.{rules}
use borrow.Author.Tests.{tests}
use Rattle.basics.proofs.Chains.{all_in_range}
use Rattle.book_terms.specs.Terms.{is_zero, uses}
use Rattle.book_terms.proofs.uses.Goals as goal

pub returns : goal.returns
unfolding uses
returns c = (all_in_range (is_zero c.args.book.now c.args.t c.args.used) c.all.ensures.ran (λ x r q k. search (rules, tests)))

use borrow.Author.Rules.{rules}
use borrow.Author.Tests.{tests}
use Rattle.basics.proofs.Chains.{all_in_range}
use Rattle.book_terms.specs.Terms.{term_in_range, terms_in_range}
use Rattle.book_terms.proofs.terms_in_range.Goals as goal

pub returns : goal.returns
unfolding terms_in_range
returns c = rw (← c.count.ensures.is) (all_in_range (term_in_range c.args.book.now) c.all.ensures.ran (λ x r q k. search (rules, tests)))

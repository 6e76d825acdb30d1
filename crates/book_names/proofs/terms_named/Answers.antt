use borrow.Author.Rules.{rules}
use borrow.Author.Tests.{tests}
use Rattle.basics.proofs.Chains.{all_in_range}
use Rattle.book_names.specs.Names.{term_named}
use Rattle.book_names.proofs.terms_named.Goals as goal

pub returns : goal.returns
returns c = rw (← c.count.ensures.is) (all_in_range (term_named c.args.book.now) c.all.ensures.ran (λ x r q k. search (rules, tests)))

use borrow.Author.Rules.{rules}
use borrow.Author.Tests.{tests}
use Rattle.basics.proofs.Chains.{all_in_range}
use Rattle.book.specs.Laid.{section_at}
use Rattle.book_names.specs.Names.{record_named, section_named}
use Rattle.book_names.proofs.section_named.Goals as goal

pub returns : goal.returns
unfolding section_named
returns c = rw (← c.count.ensures.is) (all_in_range (record_named c.args.book.now (section_at c.args.section)) c.all.ensures.ran (λ x r q k. search (rules, tests)))

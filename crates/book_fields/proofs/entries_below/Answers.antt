use borrow.Author.Rules.{rules}
use borrow.Author.Tests.{tests}
use Rattle.basics.proofs.Chains.{all_in_range}
use Rattle.book_fields.specs.Fields.{entry_below}
use Rattle.book_fields.proofs.entries_below.Goals as goal

pub returns : goal.returns
returns c = (all_in_range (entry_below c.args.book.now c.args.limit c.args.start) c.all.ensures.ran (λ x r q k. search (rules, tests)))

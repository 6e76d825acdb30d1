use borrow.Author.Rules.{rules}
use borrow.Author.Tests.{tests}
use Rattle.basics.proofs.Chains.{all_in_slice}
use Rattle.symbols.specs.Symbols.{symbol_letter}
use Rattle.symbols.proofs.letters.all_letters.Goals as goal

pub returns : goal.returns
returns c = all_in_slice symbol_letter c.all.ensures.ran c.iter.ensures.rest (λ x b q k. search (rules, tests))

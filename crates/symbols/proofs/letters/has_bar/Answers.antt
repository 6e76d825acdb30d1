use borrow.Author.Rules.{rules}
use borrow.Author.Tests.{tests}
use Rattle.basics.proofs.Chains.{any_in_slice}
use Rattle.symbols.specs.Symbols.{plain, has_bar}
use Rattle.symbols.proofs.letters.has_bar.Goals as goal

pub returns : goal.returns
unfolding has_bar
returns c = any_in_slice plain c.any.ensures.ran c.iter.ensures.rest (λ x b q k. search (rules, tests))

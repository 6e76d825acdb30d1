use borrow.Author.Rules.{rules}
use borrow.Author.Tests.{tests}
use Rattle.symbols.specs.Symbols.{plain}
use Rattle.symbols.proofs.letters.plain.Goals as goal

pub returns-then-c-ne124 : goal.returns-then-c-ne124
unfolding plain
returns-then-c-ne124 c = search (rules, tests)

pub returns-else-c-ne124 : goal.returns-else-c-ne124
unfolding plain
returns-else-c-ne124 c = search (rules, tests)

use Rattle.std.proofs.Common.{◌∙◌, refl, length, get_or, leb, arith, rules}
use Rattle.std.proofs.lemmas.Iterator.{YieldsList-from_range}
use Rattle.std.proofs.lemmas.Iterator.Search.{all_from_yields_List}
use borrow.Author.Tests.{tests}
use Rattle.number_lists.specs.Numbers.{numbers}
use Rattle.nodes_test.proofs.Inside.{by_range}
use Rattle.nodes_test.proofs.all_inside.Goals as goal

pub returns : goal.returns
returns c =
    all_from_yields_List (λ i. leb (get_or (numbers c.args.nodes.now) i 0) c.count-last.result) _ _ _ c.all.ensures.ran
    (YieldsList-from_range 0 c.number_count.result (length (numbers c.args.nodes.now)) refl (omega (arith, c.number_count.ensures))) (λ x b q k. search (rules, tests))
    ∙ by_range c.args.book.now (numbers c.args.nodes.now) c.count-last.ensures.is

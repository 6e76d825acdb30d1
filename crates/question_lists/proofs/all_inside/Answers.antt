use Rattle.std.proofs.Common.{◌∙◌, refl, length, leb, ltb, ◌&&◌, arith, rules}
use Rattle.std.proofs.lemmas.Iterator.{YieldsList-from_range}
use Rattle.std.proofs.lemmas.Iterator.Search.{all_from_yields_List}
use borrow.Author.Tests.{tests}
use Rattle.number_lists.specs.Numbers.{numbers}
use Rattle.question_lists.specs.Questions.{questions_of, question_at}
use Rattle.question_lists.proofs.Inside.{by_range}
use Rattle.question_lists.proofs.all_inside.Goals as goal

pub returns : goal.returns
returns c =
    all_from_yields_List (λ i. leb (question_at (questions_of (numbers c.args.list.now)) i).node c.count-nodes.result && ltb (question_at (questions_of (numbers c.args.list.now)) i).goal c.count-terms.result) _ _ _ c.all.ensures.ran
    (YieldsList-from_range 0 c.question_count.result (length (questions_of (numbers c.args.list.now))) refl (omega (arith, c.question_count.ensures))) (λ x b q k. search (rules, tests))
    ∙ by_range c.args.book.now (questions_of (numbers c.args.list.now)) c.count-nodes.ensures.is c.count-terms.ensures.is

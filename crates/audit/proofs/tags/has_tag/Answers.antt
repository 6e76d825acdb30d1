use Rattle.std.proofs.Common.{◌∙◌, refl, not, arith, rules}
use Rattle.std.proofs.lemmas.Iterator.{YieldsList-from_range}
use Rattle.std.proofs.lemmas.Iterator.Search.{any_from_yields_List}
use borrow.Author.Tests.{tests}
use Rattle.book.specs.Book.{terms, size}
use Rattle.book.specs.Decode.{literal_at}
use Rattle.audit.specs.Audit.{has_no_tag}
use Rattle.audit.proofs.TagTerms.{by_range}
use Rattle.audit.proofs.tags.has_tag.Goals as goal

pub returns : goal.returns
returns c =
    any_from_yields_List (λ t. not (has_no_tag (literal_at c.args.book.now t))) _ _ _ c.any.ensures.ran
    (YieldsList-from_range 0 c.count.result (size c.args.book.now terms) refl (omega (arith, c.count.ensures.is))) (λ x b q k. search (rules, tests))
    ∙ by_range c.args.book.now

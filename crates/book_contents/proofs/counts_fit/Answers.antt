use mathlib.Core.Path.{◌∙◌}
use borrow.Author.Rules.{rules}
use borrow.Author.Tests.{tests}
use Rattle.basics.proofs.Chains.{all_in_range}
use Rattle.basics.proofs.Loops.{all_places}
use Rattle.book.specs.Book.{letters, sections}
use Rattle.book.specs.Laid.{section_at}
use Rattle.book_contents.specs.Contents.{count_fits, counts_fit}
use Rattle.book_contents.proofs.counts_fit.Goals as goal

pub returns : goal.returns
unfolding counts_fit
returns c =
    all_in_range (λ n. count_fits c.args.book.now (section_at n)) c.all.ensures.ran (λ x r q k. search (rules, tests))
    ∙ all_places sections (count_fits _) letters

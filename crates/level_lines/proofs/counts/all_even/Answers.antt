use Rattle.std.proofs.Common.{◌∙◌, rules}
use Rattle.std.proofs.lemmas.Iterator.{YieldsList-from_slice}
use Rattle.std.proofs.lemmas.Iterator.Search.{all_from_yields_List}
use borrow.Author.Tests.{tests}
use Rattle.command_lines.specs.Lines.{line_at}
use Rattle.live_lines.specs.LiveLines.{lines_at}
use Rattle.level_lines.specs.AsOften.{even_in}
use Rattle.level_lines.proofs.Counting.{all_lines}
use Rattle.level_lines.proofs.counts.all_even.Goals as goal

pub returns : goal.returns
returns c =
    all_from_yields_List (λ at. even_in (lines_at c.args.a.text.now c.args.a.starts.now) (lines_at c.args.b.text.now c.args.b.starts.now) (line_at c.args.a.text.now at)) _ _ _ c.all.ensures.ran
    (YieldsList-from_slice c.args.a.starts.now cc) (λ x b q k. search (rules, tests))
    ∙ all_lines _ c.args.a.text.now c.args.a.starts.now

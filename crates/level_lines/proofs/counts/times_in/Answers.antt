use Rattle.std.proofs.Common.{◌∙◌, rules}
use Rattle.std.proofs.lemmas.Iterator.{YieldsList-from_slice}
use Rattle.std.proofs.lemmas.Iterator.Consumers.{YieldsList-from_filter, count_from_yields_List}
use borrow.Author.Tests.{tests}
use Rattle.basics.specs.Text.{same}
use Rattle.command_lines.specs.Lines.{line_at}
use Rattle.level_lines.proofs.Counting.{times_filter}
use Rattle.level_lines.proofs.counts.times_in.Goals as goal

pub returns : goal.returns
returns c =
    count_from_yields_List _ _ c.count.ensures.ran
    (YieldsList-from_filter _ (λ at. same (line_at c.args.lines.text.now at) c.args.line.now) (YieldsList-from_slice c.args.lines.starts.now cc) c.filter.ensures.closure (λ x b q k. search (rules, tests)))
    ∙ times_filter c.args.line.now c.args.lines.text.now c.args.lines.starts.now

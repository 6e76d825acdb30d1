use Rattle.std.proofs.Common.{◌∙◌, rules}
use Rattle.std.proofs.lemmas.Iterator.{YieldsList-from_slice}
use Rattle.std.proofs.lemmas.Iterator.Search.{all_from_yields_List}
use borrow.Author.Tests.{tests}
use Rattle.command_lines.specs.CommandLines.{is_printing}
use Rattle.command_lines.proofs.Slices.{all_list}
use Rattle.command_lines.proofs.lines.all_printing.Goals as goal

pub returns : goal.returns
returns c =
    all_from_yields_List is_printing _ _ _ c.all.ensures.ran (YieldsList-from_slice c.args.line.now cc) (λ x b q k. search (rules, tests)) ∙ all_list is_printing c.args.line.now

use Rattle.std.proofs.Common.{◌∙◌, rules}
use Rattle.std.proofs.lemmas.Iterator.{YieldsList-from_slice, YieldsList-from_zip}
use Rattle.std.proofs.lemmas.Iterator.Search.{all_from_yields_List}
use borrow.Author.Tests.{tests}
use Rattle.basics.specs.Text.{same}
use Rattle.command_lines.specs.Lines.{line_at}
use Rattle.level_lines.proofs.Ordering.{all_zip, other_length}
use Rattle.level_lines.proofs.orders.in_order.Goals as goal

pub returns-then-a-b : goal.returns-then-a-b
returns-then-a-b c =
    all_from_yields_List (λ p. same (line_at c.args.a.text.now p.0) (line_at c.args.b.text.now p.1)) c.all.new.self _ _ c.all.ensures.ran
    (YieldsList-from_zip {s = c.zip.result} (YieldsList-from_slice c.args.a.starts.now cc) (YieldsList-from_slice c.args.b.starts.now cc)) (λ x b q k. search (rules, tests))
    ∙ all_zip c.args.a.text.now c.args.b.text.now c.args.a.starts.now c.args.b.starts.now c.if-a-b.true

pub returns-else-a-b : goal.returns-else-a-b
returns-else-a-b c = other_length c.args.a.text.now c.args.b.text.now c.args.a.starts.now c.args.b.starts.now c.if-a-b.false

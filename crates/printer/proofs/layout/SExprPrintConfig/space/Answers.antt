use Rattle.printer.proofs.LayoutText.{space_lines, space_flat}
use Rattle.printer.proofs.layout.SExprPrintConfig.space.Goals as goal

pub returns-then-self : goal.returns-then-self
returns-then-self c = space_lines c.if-self.true c.well_formed.1.0.0 c.put-line.ensures c.clip-k.ensures c.spaces-indent.ensures c.sum.ensures

pub returns-else-self : goal.returns-else-self
returns-else-self c = space_flat c.if-self.false c.put.ensures

use Rattle.printer.proofs.LayoutText.{lead_head, lead_other}
use Rattle.printer.proofs.layout.lead.Goals as goal

pub returns-then-i-eq0 : goal.returns-then-i-eq0
returns-then-i-eq0 c = lead_head c.if-i-eq0.true

pub returns-else-i-eq0 : goal.returns-else-i-eq0
returns-else-i-eq0 c = lead_other _ c.if-i-eq0.false c.space.ensures

use Rattle.printer.proofs.LayoutText.{open-part}
use Rattle.printer.proofs.layout.open_part.Goals as goal

pub returns : goal.returns
returns c = open-part _ c.well_formed.1.1.1.0.0 c.lead-before.ensures c.clip-k.ensures c.put-open.ensures c.sum.ensures

use Rattle.printer.proofs.LayoutText.{name-part}
use Rattle.printer.proofs.layout.put_part.Goals as goal

pub returns : goal.returns
returns c = name-part _ c.well_formed.1.1.1.1.1.1.0.0 c.lead-before.ensures c.clip-k.ensures _ _ _ c.name_to_string-name.ensures c.sum.ensures

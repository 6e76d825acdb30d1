use Rattle.excluded.proofs.Sets.{bit_of}
use mathlib.Core.Path.{◌∙◌}
use Rattle.excluded.proofs.Excluded.has.Goals as goal

pub returns : goal.returns
returns c = c.has_bit.ensures ∙ bit_of _ _

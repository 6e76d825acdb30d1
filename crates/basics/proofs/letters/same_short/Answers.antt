use mathlib.Core.Path.{◌∙◌}
use Rattle.basics.proofs.Texts.{same_pointwise}
use Rattle.basics.proofs.letters.same_short.Goals as goal

pub returns : goal.returns
returns c = c.eq.ensures ∙ same_pointwise _ _

use mathlib.Core.Path.{◌∙◌}
use Rattle.basics.proofs.Texts.{same_pointwise}
use Rattle.session_levels.proofs.same.Goals as goal

pub returns : goal.returns
returns c = c.eq.ensures ∙ same_pointwise _ _

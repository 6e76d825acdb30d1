use mathlib.Core.Path.{◌∙◌}
use Rattle.engine.proofs.Entering.{depth_is}
use Rattle.engine.proofs.context.depth_of.Goals as goal

pub returns : goal.returns
returns c = c.len.ensures.value ∙ depth_is _ _ c.path_of.ensures.is

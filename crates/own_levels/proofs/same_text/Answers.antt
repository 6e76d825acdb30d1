use Rattle.own_levels.proofs.Starts.{text_same}
use Rattle.own_levels.proofs.same_text.Goals as goal

pub returns : goal.returns
returns c = text_same _ c.own_starts-n.ensures c.same_levels.ensures

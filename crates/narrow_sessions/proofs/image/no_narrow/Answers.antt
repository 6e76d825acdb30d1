use Rattle.narrow_sessions.proofs.NarrowBytes.{no-narrow}
use Rattle.narrow_sessions.proofs.image.no_narrow.Goals as goal

pub returns : goal.returns
returns c = no-narrow c.no_levels.ensures

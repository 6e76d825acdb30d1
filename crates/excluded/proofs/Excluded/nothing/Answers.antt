use Rattle.excluded.proofs.Sets.{excludes_none}
use Rattle.excluded.proofs.Excluded.nothing.Goals as goal

pub returns : goal.returns
returns c = excludes_none

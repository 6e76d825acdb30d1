use Rattle.images.proofs.Reading.{no-session}
use Rattle.images.proofs.no_session.Goals as goal

pub returns : goal.returns
returns c = no-session c.blank.ensures

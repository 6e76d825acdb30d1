use Rattle.script_text.specs.Script.{stopped}
use Rattle.script_text.proofs.Telling.{stopped_shows}
use Rattle.script_text.proofs.lines.put_stopped.Goals as goal

pub returns : goal.returns
unfolding stopped
returns c = stopped_shows c.requires c.put_all.ensures

use Rattle.script_text.proofs.Telling.{tells_text, tells_refused}
use Rattle.script_text.proofs.lines.tell.Goals as goal

pub returns-in-Ok : goal.returns-in-Ok
returns-in-Ok c = tells_text _ _ c.in-Ok.is c.text_length.ensures

pub returns-in-Err : goal.returns-in-Err
returns-in-Err c = tells_refused _ c.in-Err.is c.put_refused.ensures

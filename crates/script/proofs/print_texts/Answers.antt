use Rattle.script.proofs.Places.{next_call, stops_at}
use Rattle.script.proofs.print_texts.Goals as goal

pub returns-then-turn-clause-ok : goal.returns-then-turn-clause-ok
returns-then-turn-clause-ok g c = next_call _ _ c.if-turn.true

pub returns-clause-ok : goal.returns-clause-ok
returns-clause-ok g c = stops_at _ _ c.if-turn.false

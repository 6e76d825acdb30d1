use Rattle.sexpr_rows.proofs.Turns.{for_name, for_row, for_last}
use Rattle.sexpr_rows.proofs.turn_for.Goals as goal

pub returns-in-S : goal.returns-in-S
returns-in-S c = for_name _ c.in-S.is

pub returns-then-more : goal.returns-then-more
returns-then-more c = for_row _ c.in-PP.is c.if-more.true

pub returns-else-more : goal.returns-else-more
returns-else-more c = for_last _ c.in-PP.is c.if-more.false

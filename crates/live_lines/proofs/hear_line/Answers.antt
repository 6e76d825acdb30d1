use Rattle.std.proofs.Common.{refl, arith}
use Rattle.live_lines.proofs.Hearing.{heard_join, heard_pop, heard_rest}
use Rattle.live_lines.proofs.hear_line.Goals as goal

pub returns-in-Push : goal.returns-in-Push
returns-in-Push c = heard_join _ _ _ _ c.line_kind.ensures c.line_at.ensures c.requires.0 c.requires.1 c.in-Push.is c.join_line.ensures.0 c.join_line.ensures.1

pub returns-in-Pop : goal.returns-in-Pop
returns-in-Pop c = heard_pop _ _ _ _ c.line_kind.ensures c.line_at.ensures (omega (arith, c.requires.1)) c.in-Pop.is refl c.last_push.ensures.place c.unwrap_or.ensures

pub returns-in-CheckSat : goal.returns-in-CheckSat
returns-in-CheckSat c = heard_rest _ _ _ _ c.line_kind.ensures c.line_at.ensures c.requires.0 c.in-CheckSat.is

use native.Mathlib.Omega.{arith}
use mathlib.Core.Path.{ap}
use Rattle.basics.specs.Basics.{nat2_string}
use Rattle.basics.proofs.Laws.{wrote_then, wrote_as}
use Rattle.script_text.specs.Script.{refused_line}
use Rattle.script_text.proofs.Telling.{refused_shows}
use Rattle.script_text.proofs.lines.put_refused.Goals as goal

pub returns : goal.returns
unfolding refused_line
returns c = refused_shows _ c.requires (wrote_then (omega arith) (wrote_then (omega arith) c.put_all-word.ensures c.clip-k.ensures (wrote_as (ap nat2_string c.number.ensures) c.put_u64-digits.ensures) c.sum-numbered.ensures) c.clip-k2.ensures c.put-end.ensures c.sum.ensures)

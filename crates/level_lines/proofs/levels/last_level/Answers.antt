use Rattle.std.proofs.Common.{◌+◌, length-drop, length-take, refl, arith}
use Rattle.std.proofs.lemmas.List.{take_all}
use Rattle.level_lines.proofs.Comparing.{one_level, more_levels}
use Rattle.level_lines.proofs.levels.last_level.Goals as goal

pub returns-in_err-k : goal.returns-in_err-k
returns-in_err-k c = rw c.from_residual.ensures (one_level _ _ c.last_push.ensures.place c.in_err-k.was)

pub returns : goal.returns
returns c = (
  more_levels _ _ c.in_ok-k.k c.last_push.ensures.place c.in_ok-k.was refl (take_all _ _ (omega (arith, length-drop (c.in_ok-k.k + 1) c.args.lines.starts.now))),
  omega (arith, length-take c.in_ok-k.k c.args.lines.starts.now, c.in_ok-k.ensures.within),
)

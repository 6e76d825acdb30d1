use Rattle.std.proofs.Common.{◌≡◌, length}
use Rattle.live_lines.specs.LiveLines.{push_place}
use Rattle.live_lines.proofs.last_push.Given as goal

abbrev pub invariant-loop-k : goal.invariant-loop-k
invariant-loop-k l = push_place l.lines.text.now l.lines.starts.now (length l.lines.starts.now) ≡ push_place l.lines.text.now l.lines.starts.now l.k

use Rattle.std.proofs.Common.{◌≡◌, ◌-◌, length}
use Rattle.number_lists.specs.Numbers.{numbers}
use Rattle.live_lines.specs.LiveLines.{places}
use Rattle.audit.proofs.Comparing.{Midway}
use Rattle.audit.proofs.compare.compare.Given as goal

abbrev pub invariant-loop-at : goal.invariant-loop-at
invariant-loop-at l = Midway l.book (numbers l.questions) l.script l.starts l.n l.at l.agreed × (length l.starts ≡ places)

abbrev pub decreases-loop-at : goal.decreases-loop-at
decreases-loop-at l = length l.script - l.at

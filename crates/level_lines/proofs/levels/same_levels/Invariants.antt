use Rattle.std.proofs.Common.{length}
use Rattle.level_lines.specs.LevelLines.{stack_of}
use Rattle.level_lines.proofs.Comparing.{Level}
use Rattle.level_lines.proofs.levels.same_levels.Given as goal

abbrev pub invariant-loop-a : goal.invariant-loop-a
invariant-loop-a l =
    Level (stack_of l.fn.a.text.now l.fn.a.starts.now (length l.fn.a.starts.now)) (stack_of l.fn.b.text.now l.fn.b.starts.now (length l.fn.b.starts.now))
    (stack_of l.a.text.now l.a.starts.now (length l.a.starts.now)) (stack_of l.b.text.now l.b.starts.now (length l.b.starts.now))

abbrev pub decreases-loop-a : goal.decreases-loop-a
decreases-loop-a l = length l.a.starts.now

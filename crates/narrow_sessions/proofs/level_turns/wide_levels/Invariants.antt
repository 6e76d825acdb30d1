use Rattle.session_levels.proofs.Copying.{Copied}
use Rattle.narrow_sessions.proofs.level_turns.wide_levels.Given as goal

abbrev pub invariant-loop-i : goal.invariant-loop-i
invariant-loop-i l = Copied l.levels l.turned l.i

use mathlib.Core.Path.{refl}
use Rattle.rsolver.specs.LevelState.{no_levels}
use Rattle.narrow_sessions.proofs.level_turns.no_levels.Goals as goal

pub returns : goal.returns
unfolding no_levels
returns c = refl

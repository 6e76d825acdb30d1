use Rattle.rsolver.specs.LevelState.{no_levels}
use mathlib.Core.Path.{refl}
use Rattle.session_levels.proofs.blank.Goals as goal

pub returns : goal.returns
unfolding no_levels
returns c = refl

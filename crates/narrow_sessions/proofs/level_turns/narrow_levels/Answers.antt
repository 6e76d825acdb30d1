use native.Mathlib.Omega.{arith}
use mathlib.Core.Path.{◌≡◌}
use lib.ListN.{length}
use Rattle.rsolver.specs.LevelState.{level_count}
use Rattle.session_levels.proofs.Copying.{copied_none, copied_more, copied_all}
use borrow.Author.Rules.{rules}
use Rattle.narrow_sessions.proofs.level_turns.narrow_levels.Goals as goal

pub loop-i-init : goal.loop-i-init
loop-i-init c = copied_none _ _ (let long : length c.no_levels-turned.result ≡ level_count = search rules in search rules)

pub loop-i-preserved : goal.loop-i-preserved
loop-i-preserved c = copied_more c.loop-i.invariant (omega arith)

pub overflow_cast-turned : goal.overflow_cast-turned
overflow_cast-turned c = omega (arith, c.requires c.loop-i.i (omega arith))

pub returns : goal.returns
returns c = copied_all c.loop-i.invariant (omega (arith, c.loop-i.invariant.long))

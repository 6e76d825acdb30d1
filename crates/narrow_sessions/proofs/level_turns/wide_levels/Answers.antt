use native.Mathlib.Omega.{arith}
use mathlib.Core.Path.{◌≡◌}
use lib.ListN.{length}
use Rattle.rsolver.specs.LevelState.{level_count}
use Rattle.session_levels.proofs.Copying.{copied_none, copied_more, copied_all}
use borrow.Author.Rules.{rules}
use Rattle.narrow_sessions.proofs.level_turns.wide_levels.Goals as goal

pub loop-i-init : goal.loop-i-init
loop-i-init c = copied_none _ _ (let long : length c.blank-turned.result ≡ level_count = search rules in search rules)

pub loop-i-preserved : goal.loop-i-preserved
loop-i-preserved c = rw c.from.ensures (copied_more c.loop-i.invariant (omega arith))

pub returns : goal.returns
returns c = copied_all c.loop-i.invariant (omega (arith, c.loop-i.invariant.long))

use native.Mathlib.Omega.{arith}
use mathlib.Core.Path.{◌≡◌, sym, ◌∙◌}
use lib.ListN.{length}
use Rattle.rsolver.specs.LevelState.{level_count}
use Rattle.session_levels.proofs.Copying.{copied_none, copied_more, copied_all}
use Rattle.images.proofs.LevelLoops.{levels_long, level_read}
use borrow.Author.Rules.{rules}
use Rattle.images.proofs.levels_of.Goals as goal

pub loop-i-init : goal.loop-i-init
loop-i-init c = copied_none _ _ (let long : length c.blank-levels.result ≡ level_count = search rules in long ∙ sym (levels_long c.args.image.now c.requires))

pub loop-i-preserved : goal.loop-i-preserved
loop-i-preserved c = rw (level_read c.args.image.now c.loop-i.i c.requires (omega arith) c.level_at.ensures) (copied_more c.loop-i.invariant (omega (arith, levels_long c.args.image.now c.requires)))

pub returns : goal.returns
returns c = copied_all c.loop-i.invariant (omega (arith, levels_long c.args.image.now c.requires, c.loop-i.invariant.long))

use lib.ListN.{drop}
use Rattle.session_levels.proofs.Copying.{Copied}
use Rattle.solvers.specs.Image.{head_size, levels_in}
use Rattle.images.proofs.levels_of.Given as goal

abbrev pub invariant-loop-i : goal.invariant-loop-i
invariant-loop-i l = Copied (levels_in (drop head_size l.image)) l.level-items l.i

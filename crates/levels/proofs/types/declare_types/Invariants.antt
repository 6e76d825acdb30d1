use Rattle.levels.specs.Types.{types_step}
use Rattle.levels.specs.Did.{Did}
use lib.ListN.{length}
use mathlib.Core.Path.{◌≡◌}
use Rattle.levels.proofs.types.declare_types.Given as goal

abbrev pub invariant-loop-i : goal.invariant-loop-i
invariant-loop-i l = Did (types_step l.book l.start l.i) l.level l.initial.levels l.levels l.initial.done l.initial.out l.out l.done × (length l.levels ≡ length l.initial.levels)

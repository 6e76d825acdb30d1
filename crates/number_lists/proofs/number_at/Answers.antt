use native.Mathlib.Omega.{arith}
use mathlib.Core.Path.{◌∙◌}
use Rattle.number_lists.proofs.Numbers.{whole, cut}
use Rattle.number_lists.proofs.number_at.Goals as goal

pub returns-then-i-list : goal.returns-then-i-list
returns-then-i-list c = c.word.ensures.is ∙ whole _ _ (omega arith)

pub returns-else-i-list : goal.returns-else-i-list
returns-else-i-list c = cut _ _ c.requires (omega arith)

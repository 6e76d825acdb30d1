use Rattle.std.proofs.Common.{arith}
use Rattle.std.proofs.lemmas.Grind.{common_steps}
use Rattle.command_lines.specs.CommandLines.{is_context}
use Rattle.command_lines.proofs.kinds.is_context.Goals as goal

pub returns-then-all_printing : goal.returns-then-all_printing
unfolding is_context
returns-then-all_printing c = grind (arith, common_steps)

pub returns-else-all_printing : goal.returns-else-all_printing
unfolding is_context
returns-else-all_printing c = grind (arith, common_steps)

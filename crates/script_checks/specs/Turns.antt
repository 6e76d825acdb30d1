-- What a line does to the height over the first level, and to the count of check-sats: the code's step through `check_count`.
use Rattle.std.specs.Prelude.{ℕ, zero, suc, Option, Some, None}
use Rattle.command_lines.specs.declared.kinds.LineKind.{LineKind}
use Rattle.command_lines.specs.declared.kinds.LineKind.TheVariants.{Push, Pop, CheckSat, GetModel, Joins, Foreign}
use Rattle.script_checks.specs.declared.Met.{Met}

unfoldable pub lower : (depth checks : ℕ) → Option Met
lower zero n = None
lower (suc depth) n = Some (record { depth = depth; checks = n })

unfoldable pub turned : LineKind → Met → Option Met
turned Push met = Some (record { depth = suc met.depth; checks = met.checks })
turned Pop met = lower met.depth met.checks
turned CheckSat met = Some (record { depth = met.depth; checks = suc met.checks })
turned GetModel met = Some met
turned Joins met = Some met
turned Foreign met = None

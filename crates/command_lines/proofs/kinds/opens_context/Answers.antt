use Rattle.std.proofs.Common.{sym, ◌∙◌}
use mathlib.Core.Bool.{true≢false}
use Rattle.command_lines.proofs.Telling.{opens_assert, opens_function, opens_sort}
use Rattle.command_lines.proofs.kinds.opens_context.Goals as goal
use Rattle.command_lines.proofs.kinds.opens_context.Goals.{then-starts_with, else-starts_with}

pub returns-then-starts_with-2 : goal.returns-then-starts_with-2
returns-then-starts_with-2 c =
    elim c.if-starts_with.branch [
      | then-starts_with w ↦ w.value-is ∙ w.if-starts_with.true ∙ opens_assert _ c.starts_with.ensures w.if-starts_with.true
      | else-starts_with w ↦ c.if-starts_with-2.true ∙ opens_function _ c.starts_with.ensures w.if-starts_with.false w.starts_with-else-starts_with.ensures (sym w.value-is ∙ c.if-starts_with-2.true)
    ]

pub returns-else-starts_with-2 : goal.returns-else-starts_with-2
returns-else-starts_with-2 c =
    elim c.if-starts_with.branch [
      | then-starts_with w ↦ absurd (true≢false (sym w.if-starts_with.true ∙ sym w.value-is ∙ c.if-starts_with-2.false))
      | else-starts_with w ↦ opens_sort _ c.starts_with.ensures w.if-starts_with.false w.starts_with-else-starts_with.ensures (sym w.value-is ∙ c.if-starts_with-2.false) c.starts_with-else-starts_with-2.ensures
    ]

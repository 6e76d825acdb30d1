use Rattle.printer.proofs.LayoutText.{behind_head, behind_other}
use Rattle.printer.proofs.layout.indent_behind.Goals as goal

pub returns-then-newlines-i : goal.returns-then-newlines-i
returns-then-newlines-i c = behind_head c.if-newlines-i.true c.sum.ensures

pub returns-else-newlines-i : goal.returns-else-newlines-i
returns-else-newlines-i c = behind_other _ _ c.if-newlines-i.false

use Rattle.symbols.proofs.Tests.{name_empty, name_quoted, name_plain}
use Rattle.symbols.proofs.names.is_name.Goals as goal

pub returns-then-name-eq0 : goal.returns-then-name-eq0
returns-then-name-eq0 c = name_empty _ c.if-name-eq0.true

pub returns-then-is_quoted : goal.returns-then-is_quoted
returns-then-is_quoted c = name_quoted _ c.if-name-eq0.false c.is_quoted.ensures c.if-is_quoted.true

pub returns : goal.returns
returns c = name_plain _ c.if-name-eq0.false c.is_quoted.ensures c.if-is_quoted.false c.has_bar.ensures

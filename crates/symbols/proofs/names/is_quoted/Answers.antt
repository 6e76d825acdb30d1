use Rattle.symbols.proofs.Tests.{quoted_short, quoted_first, quoted_last, quoted_inside}
use Rattle.symbols.proofs.names.is_quoted.Goals as goal

pub returns-then-name-lt2 : goal.returns-then-name-lt2
returns-then-name-lt2 c = quoted_short _ c.if-name-lt2.true

pub returns-then-name-ne124 : goal.returns-then-name-ne124
returns-then-name-ne124 c = quoted_first _ c.if-name-lt2.false c.if-name-ne124.true

pub returns-then-name-last-ne124 : goal.returns-then-name-last-ne124
returns-then-name-last-ne124 c = quoted_last _ c.if-name-lt2.false c.if-name-ne124.false c.if-name-last-ne124.true

pub returns : goal.returns
returns c = quoted_inside _ c.if-name-lt2.false c.if-name-ne124.false c.if-name-last-ne124.false c.has_bar.ensures

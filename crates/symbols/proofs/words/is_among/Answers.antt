use mathlib.Core.Path.{sym, ◌∙◌}
use Rattle.symbols.proofs.Walking.{left_first, left_found, left_more, left_none}
use Rattle.symbols.proofs.words.is_among.Goals as goal

pub loop-at-init : goal.loop-at-init
loop-at-init c = left_first _ _

pub returns-then-same : goal.returns-then-same
returns-then-same c = left_found _ _ _ c.loop-at.invariant c.requires c.loop-at-test.true (sym c.same.ensures ∙ c.if-same.true)

pub loop-at-preserved : goal.loop-at-preserved
loop-at-preserved c = left_more _ _ _ c.loop-at.invariant c.requires c.loop-at-test.true (sym c.same.ensures ∙ c.if-same.false)

pub returns : goal.returns
returns c = left_none _ _ _ c.loop-at.invariant c.loop-at-test.false

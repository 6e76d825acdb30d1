use borrow.Author.Tests.{not-true, not-false}
use Rattle.std.proofs.lemmas.Bool.{not_from_false, not_from_true}
use Rattle.level_lines.proofs.Comparing.{level_more, level_stop, level_lower, level_higher, level_first}
use Rattle.level_lines.proofs.levels.same_levels.Goals as goal

pub returns-in-None-None : goal.returns-in-None-None
returns-in-None-None c = level_first _ _ _ _ c.loop-a.invariant c.in-None-None.ensures c.in-None-None.ensures' c.same_level.ensures

pub returns-then-not-same_level : goal.returns-then-not-same_level
returns-then-not-same_level c = level_stop _ _ _ _ c.loop-a.invariant c.in-Some-Some.ensures.0 c.in-Some-Some.ensures'.0 c.same_level-in-Some-Some.ensures (not-true _ (not_from_false _ c.if-not-same_level.true))

pub loop-a-preserved : goal.loop-a-preserved
loop-a-preserved c = level_more _ _ _ _ c.loop-a.invariant c.in-Some-Some.ensures.0 c.in-Some-Some.ensures'.0 c.same_level-in-Some-Some.ensures (not-false _ (not_from_true _ c.if-not-same_level.false))

pub returns-in_default : goal.returns-in_default
returns-in_default c = level_higher _ _ _ _ c.loop-a.invariant c.in_default.ensures c.in_default.ensures'.0

pub returns-in_default-2 : goal.returns-in_default-2
returns-in_default-2 c = level_lower _ _ _ _ c.loop-a.invariant c.in_default.ensures.0 c.in_default.ensures'

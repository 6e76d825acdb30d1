use Rattle.audit.proofs.CheckCounts.{foreign, uneven, comparable, compared}
use Rattle.audit.proofs.audit_checks.Goals as goal

pub returns-then-checks-question_count : goal.returns-then-checks-question_count
returns-then-checks-question_count c = uneven _ _ _ c.count_checks.ensures c.in-Some.is c.question_count.ensures c.if-checks-question_count.true

pub compare-requires : goal.compare-requires
compare-requires c = comparable _ _ _ c.count_checks.ensures c.in-Some.is c.question_count.ensures c.if-checks-question_count.false c.requires

pub returns-in_default : goal.returns-in_default
returns-in_default c = foreign _ _ _ c.count_checks.ensures c.in_default.is

pub returns : goal.returns
returns c = compared _ _ _ c.count_checks.ensures c.in-Some.is c.question_count.ensures c.if-checks-question_count.false _ c.compare.ensures

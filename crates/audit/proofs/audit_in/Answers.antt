use native.Mathlib.Omega.{arith}
use Rattle.basics.proofs.Bool.{passed, failed}
use Rattle.audit.proofs.Ladder.{too_long, outside, incomplete, tagged, untagged}
use Rattle.std.proofs.lemmas.Bool.{not_from_false, not_from_true}
use Rattle.audit.proofs.audit_in.Goals as goal

pub returns-then-script-gt-SCRIPT_MOST : goal.returns-then-script-gt-SCRIPT_MOST
returns-then-script-gt-SCRIPT_MOST c = too_long _ _ _ (omega (arith, c.if-script-gt-SCRIPT_MOST.true))

pub returns-then-not-all_inside : goal.returns-then-not-all_inside
returns-then-not-all_inside c = outside _ _ _ (omega (arith, c.if-script-gt-SCRIPT_MOST.false)) (failed c.all_inside.ensures (not_from_false _ c.if-not-all_inside.true))

pub all_complete-requires : goal.all_complete-requires
all_complete-requires c = (c.requires, passed c.all_inside.ensures (not_from_true _ c.if-not-all_inside.false))

pub returns-then-not-all_complete : goal.returns-then-not-all_complete
returns-then-not-all_complete c = incomplete _ _ _ (omega (arith, c.if-script-gt-SCRIPT_MOST.false)) (passed c.all_inside.ensures (not_from_true _ c.if-not-all_inside.false)) (failed c.all_complete.ensures (not_from_false _ c.if-not-all_complete.true))

pub returns-then-has_tag : goal.returns-then-has_tag
returns-then-has_tag c = tagged _ _ _ (omega (arith, c.if-script-gt-SCRIPT_MOST.false)) (passed c.all_inside.ensures (not_from_true _ c.if-not-all_inside.false)) (passed c.all_complete.ensures (not_from_true _ c.if-not-all_complete.false)) c.has_tag.ensures c.if-has_tag.true

pub audit_checks-requires : goal.audit_checks-requires
audit_checks-requires c = record { promise = c.requires; inside = passed c.all_inside.ensures (not_from_true _ c.if-not-all_inside.false); short = omega (arith, c.if-script-gt-SCRIPT_MOST.false) }

pub returns : goal.returns
returns c = untagged _ _ _ (omega (arith, c.if-script-gt-SCRIPT_MOST.false)) (passed c.all_inside.ensures (not_from_true _ c.if-not-all_inside.false)) (passed c.all_complete.ensures (not_from_true _ c.if-not-all_complete.false)) _ c.has_tag.ensures c.if-has_tag.false c.audit_checks.ensures

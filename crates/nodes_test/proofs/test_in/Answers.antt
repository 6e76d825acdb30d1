use native.Mathlib.Omega.{arith}
use Rattle.basics.proofs.Bool.{passed, failed}
use Rattle.nodes_test.proofs.Calls.{too_many, outside, positions}
use Rattle.std.proofs.lemmas.Bool.{not_from_false, not_from_true}
use Rattle.nodes_test.proofs.test_in.Goals as goal

pub returns-then-number_count-gt-NODES_MOST : goal.returns-then-number_count-gt-NODES_MOST
returns-then-number_count-gt-NODES_MOST c = too_many _ _ (omega (arith, c.number_count.ensures, c.if-number_count-gt-NODES_MOST.true))

pub returns-then-not-all_inside : goal.returns-then-not-all_inside
returns-then-not-all_inside c = outside _ _ (omega (arith, c.number_count.ensures, c.if-number_count-gt-NODES_MOST.false)) (failed c.all_inside.ensures (not_from_false _ c.if-not-all_inside.true))

pub first_failing-requires : goal.first_failing-requires
first_failing-requires c = record { promise = c.requires; inside = passed c.all_inside.ensures (not_from_true _ c.if-not-all_inside.false) }

pub returns : goal.returns
returns c = positions _ _ (omega (arith, c.number_count.ensures, c.if-number_count-gt-NODES_MOST.false)) _ (passed c.all_inside.ensures (not_from_true _ c.if-not-all_inside.false)) c.first_failing.ensures

use native.Mathlib.Omega.{arith}
use Rattle.records.proofs.Readers.{reads_list}
use mathlib.Core.Path.{◌≡◌}
use Rattle.listing_terms.proofs.Lists.{variables_none, variables_more}
use Rattle.listing_terms.proofs.leaves.bound_vars_to_string.Goals as goal

pub loop-i-init : goal.loop-i-init
loop-i-init c = variables_none _ _ 0 (omega arith)

pub overflow_add-start : goal.overflow_add-start
overflow_add-start c = omega (arith, c.requires.1.ends, c.requires.0.lists_laid.few)

pub field-v-requires : goal.field-v-requires
field-v-requires c = reads_list c.requires.0 (omega (arith, c.requires.1.ends))

pub bound_var_to_string-done-requires : goal.bound_var_to_string-done-requires
bound_var_to_string-done-requires c = (c.requires.0, rw c.field-v.ensures.is (c.requires.1.below _ (omega arith)))

pub loop-i-preserved : goal.loop-i-preserved
loop-i-preserved c = variables_more _ _ _ c.well_formed.1.1.1.1.0.0 c.loop-i.invariant c.put_lead-next.ensures c.field-v.ensures.is c.bound_var_to_string-done.ensures

pub returns : goal.returns
returns c = let e : c.loop-i.i ≡ c.args.count = omega arith in rw e at c.loop-i.invariant

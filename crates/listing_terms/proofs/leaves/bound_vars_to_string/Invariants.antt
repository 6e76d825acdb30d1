use Rattle.basics.specs.Write.{WroteAt}
use Rattle.listing_terms.specs.Texts.{variables_text}
use Rattle.listing_terms.proofs.leaves.bound_vars_to_string.Given as goal

abbrev pub invariant-loop-i : goal.invariant-loop-i
invariant-loop-i l = WroteAt (variables_text l.book l.start l.i) l.at l.initial.out l.out l.done

use Prim.Native.Nat.{◌+◌, ◌*◌}
use Rattle.basics.specs.Write.{WroteAt}
use Rattle.listing_terms.specs.Texts.{terms_text, patterns_text}
use Rattle.listing_terms.proofs.Fronts.{Turning}
use Rattle.listing_terms.proofs.cycle.+terms.Given as goal

abbrev pub decreases-put_arguments : goal.decreases-put_arguments
decreases-put_arguments l = 8 * l.t + 5

abbrev pub decreases-put_front : goal.decreases-put_front
decreases-put_front l = 8 * l.t + 7

abbrev pub decreases-put_application : goal.decreases-put_application
decreases-put_application l = 8 * l.t + 6

abbrev pub decreases-put_if : goal.decreases-put_if
decreases-put_if l = 8 * l.t + 5

abbrev pub decreases-put_let : goal.decreases-put_let
decreases-put_let l = 8 * l.t + 5

abbrev pub decreases-patterns_to_string : goal.decreases-patterns_to_string
decreases-patterns_to_string l = 8 * l.limit + 4

abbrev pub decreases-put_quantifier : goal.decreases-put_quantifier
decreases-put_quantifier l = 8 * l.t + 5

abbrev pub decreases-rexpr_to_string : goal.decreases-rexpr_to_string
decreases-rexpr_to_string l = 8 * l.t + 8

abbrev pub decreases-rexpr_list_to_string : goal.decreases-rexpr_list_to_string
decreases-rexpr_list_to_string l = 8 * l.limit + 3

abbrev pub invariant-patterns_to_string-loop-i : goal.invariant-patterns_to_string-loop-i
invariant-patterns_to_string-loop-i l = WroteAt (patterns_text l.book l.start l.i) l.at l.initial.out l.out l.done

abbrev pub invariant-rexpr_list_to_string-loop-i : goal.invariant-rexpr_list_to_string-loop-i
invariant-rexpr_list_to_string-loop-i l = WroteAt (terms_text l.book l.start l.i) l.at l.initial.out l.out l.done

abbrev pub invariant-rexpr_to_string-loop-n : goal.invariant-rexpr_to_string-loop-n
invariant-rexpr_to_string-loop-n l = Turning l.book l.t l.at l.initial.out l.out l.p l.pending l.done

abbrev pub decreases-rexpr_to_string-loop-n : goal.decreases-rexpr_to_string-loop-n
decreases-rexpr_to_string-loop-n l = l.p

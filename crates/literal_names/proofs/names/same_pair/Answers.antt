use native.Mathlib.Omega.{arith}
use mathlib.Core.Bool.{Bool, ◌&&◌}
use mathlib.Core.Path.{sym, ap, ◌∙◌}
use Rattle.basics.specs.Text.{same}
use Rattle.basics.proofs.Bool.{passed, failed}
use Rattle.basics.proofs.Texts.{same_sym}
use Rattle.literal_names.proofs.Pairs.{longer, one_colon}
use Rattle.std.proofs.lemmas.Bool.{not_from_false, not_from_true}
use Rattle.literal_names.proofs.names.same_pair.Goals as goal

pub overflow_add-s : goal.overflow_add-s
overflow_add-s c = omega (arith, c.well_formed.0.1, c.well_formed.1.0.1)

pub overflow_add-s2 : goal.overflow_add-s2
overflow_add-s2 c = omega (arith, c.well_formed.1.1.0.1, c.well_formed.1.1.1.0.1)

pub returns-then-s-typ : goal.returns-then-s-typ
returns-then-s-typ c = longer c.args.s.now c.args.typ.now c.args.s2.now c.args.typ2.now c.if-s-typ.true

pub same_split-requires : goal.same_split-requires
same_split-requires c = (c.if-s-s2.true, c.if-s-typ.false)

pub returns-then-s-s2 : goal.returns-then-s-s2
returns-then-s-s2 c = c.same_split.ensures

pub same_split-requires-then-s2-s : goal.same_split-requires-then-s2-s
same_split-requires-then-s2-s c = (c.if-s2-s.true, sym c.if-s-typ.false)

pub returns-then-s2-s : goal.returns-then-s2-s
returns-then-s2-s c = c.same_split-then-s2-s.ensures ∙ same_sym _ _

pub returns-then-not-same : goal.returns-then-not-same
returns-then-not-same c = sym (one_colon c.args.s.now c.args.typ.now c.args.s2.now c.args.typ2.now (omega arith) ∙ ap (λ (t : Bool). t && same c.args.typ.now c.args.typ2.now) (failed c.same.ensures (not_from_false _ c.if-not-same.true)))

pub returns : goal.returns
returns c = sym (one_colon c.args.s.now c.args.typ.now c.args.s2.now c.args.typ2.now (omega arith) ∙ ap (λ (t : Bool). t && same c.args.typ.now c.args.typ2.now) (passed c.same.ensures (not_from_true _ c.if-not-same.false)) ∙ sym c.same-2.ensures)

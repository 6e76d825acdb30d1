use native.Mathlib.Omega.{arith}
use mathlib.Core.Path.{refl}
use Prim.Native.Nat.{◌+◌, ◌-◌}
use lib.ListN.{length, length-take}
use Rattle.basics.proofs.Bool.{passed, failed}
use Rattle.literal_names.proofs.Pairs.{behind, no_colon, no_second_colon, front_differs, middle_differs, rest_decides}
use Rattle.std.proofs.lemmas.Bool.{not_from_false, not_from_true}
use Rattle.literal_names.proofs.names.same_split.Goals as goal

pub returns-then-s2-left-ne-COLON : goal.returns-then-s2-left-ne-COLON
returns-then-s2-left-ne-COLON c = no_colon c.args.s.now c.args.typ.now c.args.s2.now c.args.typ2.now (length c.args.s.now) (length c.args.s2.now - length c.args.s.now - 1) refl (omega (arith, c.requires.0)) c.requires.1 c.if-s2-left-ne-COLON.true

pub returns-then-typ-between-ne-COLON : goal.returns-then-typ-between-ne-COLON
returns-then-typ-between-ne-COLON c = no_second_colon c.args.s.now c.args.typ.now c.args.s2.now c.args.typ2.now (length c.args.s.now) (length c.args.s2.now - length c.args.s.now - 1) refl (omega (arith, c.requires.0)) c.requires.1 c.if-typ-between-ne-COLON.true

pub slice_bounds-same-end : goal.slice_bounds-same-end
slice_bounds-same-end c = simp length-take (omega (arith, c.requires.0))

pub returns-then-not-same : goal.returns-then-not-same
returns-then-not-same c = front_differs c.args.s.now c.args.typ.now c.args.s2.now c.args.typ2.now (length c.args.s.now) (length c.args.s2.now - length c.args.s.now - 1) refl (omega (arith, c.requires.0)) c.requires.1 refl (failed c.same.ensures (not_from_false _ c.if-not-same.true))

pub slice_bounds-same-end-2 : goal.slice_bounds-same-end-2
slice_bounds-same-end-2 c = simp length-take (omega (arith, c.requires.0, c.requires.1))

pub returns-then-not-same-2 : goal.returns-then-not-same-2
returns-then-not-same-2 c = middle_differs c.args.s.now c.args.typ.now c.args.s2.now c.args.typ2.now (length c.args.s.now) (length c.args.s2.now - length c.args.s.now - 1) refl (omega (arith, c.requires.0)) c.requires.1 refl (behind c.args.s2.now (length c.args.s.now) (length c.args.s2.now - (length c.args.s.now + 1)) (omega (arith, c.requires.0))) (failed c.same-2.ensures (not_from_false _ c.if-not-same-2.true))

pub returns : goal.returns
returns c = rest_decides c.args.s.now c.args.typ.now c.args.s2.now c.args.typ2.now (length c.args.s.now) (length c.args.s2.now - length c.args.s.now - 1) refl (omega (arith, c.requires.0)) c.requires.1 c.if-s2-left-ne-COLON.false c.if-typ-between-ne-COLON.false refl (passed c.same.ensures (not_from_true _ c.if-not-same.false)) refl (behind c.args.s2.now (length c.args.s.now) (length c.args.s2.now - (length c.args.s.now + 1)) (omega (arith, c.requires.0))) (passed c.same-2.ensures (not_from_true _ c.if-not-same-2.false)) (behind c.args.typ.now (length c.args.s2.now - length c.args.s.now - 1) (length c.args.typ.now - ((length c.args.s2.now - length c.args.s.now - 1) + 1)) (omega (arith, c.requires.0, c.requires.1))) c.same-3.ensures

use native.Mathlib.Omega.{arith}
use mathlib.Core.Path.{ap, ◌∙◌}
use Rattle.basics.proofs.Bool.{passed, failed}
use Rattle.std.proofs.lemmas.Bool.{not_from_false, not_from_true}
use Rattle.solvers.specs.Image.{owed_of}
use Rattle.solvers.proofs.Head.{kind_told}
use Rattle.images.specs.Heads.{ReadHead}
use Rattle.images.proofs.read_head.Goals as goal

pub returns-then-not-is_kind : goal.returns-then-not-is_kind
unfolding ReadHead
returns-then-not-is_kind c = failed c.is_kind.ensures (not_from_false _ c.if-not-is_kind.true)

pub word-requires : goal.word-requires
word-requires c = omega (arith, (kind_told _ _ _ (passed c.is_kind.ensures (not_from_true _ c.if-not-is_kind.false))).long)

pub word-requires-2 : goal.word-requires-2
word-requires-2 c = omega (arith, (kind_told _ _ _ (passed c.is_kind.ensures (not_from_true _ c.if-not-is_kind.false))).long)

pub word-requires-3 : goal.word-requires-3
word-requires-3 c = omega (arith, (kind_told _ _ _ (passed c.is_kind.ensures (not_from_true _ c.if-not-is_kind.false))).long)

pub returns : goal.returns
unfolding ReadHead
returns c =
    (passed c.is_kind.ensures (not_from_true _ c.if-not-is_kind.false), λ i. record { node = c.word.ensures i; goal = c.word-2.ensures i; owed = (c.owed_of.ensures ∙ ap owed_of c.word-3.ensures) i })

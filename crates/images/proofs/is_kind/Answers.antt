use mathlib.Core.Path.{sym, ◌∙◌}
use borrow.Author.Tests.{eqb-true, eqb-false}
use Rattle.images.proofs.Reading.{other_length, other_kind, owed_decides}
use Rattle.images.proofs.is_kind.Goals as goal
use Rattle.images.proofs.is_kind.Goals.{then-image-size, else-image-size}

pub returns-then-word-kind : goal.returns-then-word-kind
returns-then-word-kind c =
    elim c.if-image-size.branch [
      | then-image-size w ↦ owed_decides _ _ _ w.if-image-size.true w.word.ensures (eqb-true _ _ (sym w.value-is ∙ c.if-word-kind.true)) c.word-then-word-kind.ensures
      | else-image-size w ↦ absurd (w.if-image-size.false (eqb-true _ _ (sym w.value-is ∙ c.if-word-kind.true)))
    ]

pub returns-else-word-kind : goal.returns-else-word-kind
returns-else-word-kind c =
    elim c.if-image-size.branch [
      | then-image-size w ↦ c.if-word-kind.false ∙ other_kind _ _ _ w.if-image-size.true w.word.ensures (eqb-false _ _ (sym w.value-is ∙ c.if-word-kind.false))
      | else-image-size w ↦ c.if-word-kind.false ∙ other_length _ _ _ w.if-image-size.false
    ]

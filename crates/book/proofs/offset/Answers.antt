use mathlib.Core.Path.{◌∙◌}
use Rattle.book.proofs.Sections.{offset_at}
use Rattle.book.proofs.offset.Goals as goal

pub returns : goal.returns
returns c =
    let s = c in
    record { is = c.word.ensures.is ∙ offset_at _ _ s.requires.0; small = c.word.ensures.small }

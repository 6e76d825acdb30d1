use mathlib.Core.Path.{◌∙◌}
use Rattle.book.proofs.Sections.{size_at}
use Rattle.book.proofs.count.Goals as goal

pub returns : goal.returns
returns c =
    let s = c in
    record { is = c.word.ensures.is ∙ size_at _ _ s.requires.0; small = c.word.ensures.small }

use mathlib.Core.Path.{ap, ◌∙◌}
use mathlib.Core.List.{◌++◌, append_assoc}
use Rattle.basics.proofs.Places.{at_then, at_as}
use Rattle.book.specs.Laid.{section_at}
use Rattle.book_layout.specs.Layout.{body}
use Rattle.book_growth.specs.Growth.{grown_body}
use Rattle.book_growth.proofs.Parts.{both_told}
use Rattle.book_growth.proofs.put_grown.Goals as goal

pub returns : goal.returns
unfolding grown_body
returns c = at_as (append_assoc (body c.args.book.now (section_at c.args.section)) _ _ ∙ ap (λ (t : _). body c.args.book.now (section_at c.args.section) ++ t) (both_told _ c.requires.0 c.part.ensures c.rest.ensures)) (at_then c.well_formed.1.1.1.1.0.0 c.put_section-next.ensures c.put_at.ensures)

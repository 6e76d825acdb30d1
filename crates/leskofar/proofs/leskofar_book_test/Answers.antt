use mathlib.Core.Path.{ap, ◌∙◌}
use Rattle.leskofar.specs.Exports.{refusal_of}
use Rattle.leskofar.proofs.leskofar_book_test.Goals as goal

pub returns : goal.returns
returns c = (c.refusal.ensures ∙ ap refusal_of c.book_test.ensures.0, c.book_test.ensures.1)

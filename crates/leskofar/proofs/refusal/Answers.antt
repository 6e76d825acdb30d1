use mathlib.Core.Path.{sym, ap, ◌∙◌}
use Rattle.book_test.specs.BookTest.{tested_value}
use Rattle.leskofar.specs.Exports.{refusal_of}
use Rattle.leskofar.proofs.refusal.Goals as goal

pub returns-in-Ok : goal.returns-in-Ok
unfolding refusal_of tested_value
returns-in-Ok c = sym (ap refusal_of (ap tested_value c.in-Ok.is))

pub returns-in-Err : goal.returns-in-Err
unfolding refusal_of tested_value
returns-in-Err c = c.number.ensures ∙ sym (ap refusal_of (ap tested_value c.in-Err.is))

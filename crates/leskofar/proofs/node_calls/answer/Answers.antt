use Prim.Native.Nat.{ℕ}
use Rattle.std.specs.Prelude.{Option, Result, Ok}
use Rattle.book.specs.declared.Refusal.{Refusal}
use mathlib.Core.Path.{sym, ap, ◌∙◌}
use Rattle.basics.specs.Outcome.{refused}
use Rattle.nodes_test.specs.NodesTest.{nodes_tested_value, position_value}
use Rattle.leskofar.specs.Exports.{nodes_answered}
use Rattle.leskofar.proofs.node_calls.answer.Goals as goal

abbrev ok : Option ℕ → Result (Option ℕ) Refusal
ok o = Ok o

pub returns-in-Ok-None : goal.returns-in-Ok-None
unfolding nodes_answered nodes_tested_value position_value
returns-in-Ok-None c = let f = rw c.in-Ok-None.is at c.in-Ok-None.field-0-is in sym (ap nodes_answered (ap nodes_tested_value (c.in-Ok-None.is ∙ ap ok f)))

pub returns-in-Ok-Some : goal.returns-in-Ok-Some
unfolding nodes_answered nodes_tested_value position_value
returns-in-Ok-Some c = let f = rw c.in-Ok-Some.is at c.in-Ok-Some.field-0-is in sym (ap nodes_answered (ap nodes_tested_value (c.in-Ok-Some.is ∙ ap ok f)))

pub returns-in-Err : goal.returns-in-Err
unfolding nodes_answered nodes_tested_value position_value
returns-in-Err c = ap (λ (n : ℕ). nodes_answered (refused n)) c.number.ensures ∙ sym (ap nodes_answered (ap nodes_tested_value c.in-Err.is))

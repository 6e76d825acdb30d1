use mathlib.Core.Path.{ap, ◌∙◌}
use Rattle.leskofar.specs.Exports.{nodes_answered}
use Rattle.leskofar.proofs.node_calls.leskofar_nodes_test.Goals as goal

pub returns : goal.returns
returns c = record { answer = c.answer.ensures ∙ ap nodes_answered c.nodes_test.ensures.0; scratch = c.nodes_test.ensures.1 }

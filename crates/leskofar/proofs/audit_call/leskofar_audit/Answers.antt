use mathlib.Core.Path.{sym, ap, ◌∙◌, subst}
use Rattle.audit.specs.Audit.{Small}
use Rattle.audit.proofs.Small.{call_small}
use Rattle.leskofar.specs.Exports.{audit_answered}
use Rattle.leskofar.proofs.audit_call.leskofar_audit.Goals as goal

pub answer-requires : goal.answer-requires
answer-requires c = subst Small (sym c.audit.ensures.0) (call_small _ _ _ _)

pub returns : goal.returns
returns c = record { answer = c.answer.ensures ∙ ap audit_answered c.audit.ensures.0; scratch = c.audit.ensures.1 }

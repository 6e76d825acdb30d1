use Prim.Native.Nat.{ℕ}
use Rattle.std.specs.Prelude.{Option, Result, Ok}
use Rattle.book.specs.declared.Refusal.{Refusal}
use mathlib.Core.Path.{sym, ap, ◌∙◌}
use Rattle.basics.specs.Outcome.{refused}
use native.Mathlib.Omega.{arith}
use Rattle.audit.specs.Audit.{audited_value, verdict_value}
use Rattle.leskofar.specs.Exports.{audit_answered}
use Rattle.leskofar.proofs.audit_call.answer.Goals as goal

abbrev ok : Option ℕ → Result (Option ℕ) Refusal
ok o = Ok o

pub overflow_cast-result : goal.overflow_cast-result
unfolding audited_value verdict_value
overflow_cast-result c = let f = rw c.in-Ok-Some.is at c.in-Ok-Some.field-0-is in omega (arith, c.requires.most _ (ap audited_value (c.in-Ok-Some.is ∙ ap ok f)))

pub returns-in-Ok-None : goal.returns-in-Ok-None
unfolding audit_answered audited_value verdict_value
returns-in-Ok-None c = let f = rw c.in-Ok-None.is at c.in-Ok-None.field-0-is in sym (ap audit_answered (ap audited_value (c.in-Ok-None.is ∙ ap ok f)))

pub returns-in-Ok-Some : goal.returns-in-Ok-Some
unfolding audit_answered audited_value verdict_value
returns-in-Ok-Some c = let f = rw c.in-Ok-Some.is at c.in-Ok-Some.field-0-is in sym (ap audit_answered (ap audited_value (c.in-Ok-Some.is ∙ ap ok f)))

pub returns-in-Err : goal.returns-in-Err
unfolding audit_answered audited_value verdict_value
returns-in-Err c = ap (λ (n : ℕ). audit_answered (refused n)) c.number.ensures ∙ sym (ap audit_answered (ap audited_value c.in-Err.is))

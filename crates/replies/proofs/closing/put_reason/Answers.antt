use native.Mathlib.Omega.{arith}
use Rattle.replies.proofs.Reasons.{reply_alone, reply_and_model}
use Rattle.replies.proofs.closing.put_reason.Goals as goal

pub returns-in_default : goal.returns-in_default
returns-in_default c = reply_alone _ c.in_default.is c.put_at-first.ensures

pub returns : goal.returns
returns c = reply_and_model _ c.in-Some.is (omega arith) c.put_at-first.ensures c.put_at-line.ensures c.put_at.ensures

use native.Mathlib.Omega.{arith}
use Rattle.replies.proofs.Reasons.{pops_wrote}
use Rattle.replies.proofs.closing.two_pops.Goals as goal

pub returns : goal.returns
returns c = pops_wrote (omega arith) c.pop-one.ensures c.pop.ensures

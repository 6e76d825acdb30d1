use native.Mathlib.Omega.{arith}
use Rattle.audit.proofs.Ladder.{kept, early, late}
use Rattle.audit.proofs.with_script.Goals as goal

pub returns-then-script-le-SCRIPT_MOST : goal.returns-then-script-le-SCRIPT_MOST
returns-then-script-le-SCRIPT_MOST c = kept _ c.args.why (omega arith)

pub returns-then-number : goal.returns-then-number
returns-then-number c = early _ c.args.why (omega arith) (omega (arith, c.number.ensures, c.number-2.ensures))

pub returns : goal.returns
returns c = late _ c.args.why (omega arith) (omega (arith, c.number.ensures, c.number-2.ensures))

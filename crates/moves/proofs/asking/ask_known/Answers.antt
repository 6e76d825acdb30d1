use native.Mathlib.Omega.{arith}
use Rattle.moves.proofs.AskCall.{lacking, too_long, done}
use Rattle.moves.proofs.asking.ask_known.Goals as goal

pub returns-then-measured : goal.returns-then-measured
returns-then-measured c = lacking _ _ _ _ _ c.measure-measured.ensures c.if-measured.true

pub returns-then-text-measured : goal.returns-then-text-measured
returns-then-text-measured c = too_long _ _ _ _ _ c.measure-measured.ensures c.if-measured.false c.if-text-measured.true

pub returns : goal.returns
returns c = done _ _ _ _ _ c.measure-measured.ensures c.if-measured.false c.if-text-measured.false (omega (arith, c.well_formed.1.1.1.1.0)) c.wait.ensures

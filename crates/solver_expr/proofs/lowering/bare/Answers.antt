use native.Mathlib.Omega.{arith}
use mathlib.Core.Path.{refl, sym, ◌∙◌}
use Rattle.solver_expr.proofs.Values.{bare_more}
use Rattle.solver_expr.proofs.lowering.bare.Goals as goal

pub loop-x-init : goal.loop-x-init
loop-x-init c = (c.requires.here, λ tag. refl)

pub without_variables-requires : goal.without_variables-requires
without_variables-requires c = record { promise = c.requires.promise; here = c.loop-x.invariant.0 }

pub loop-x-smaller : goal.loop-x-smaller
loop-x-smaller c = (bare_more _ _ c.requires.promise c.loop-x.invariant.0 c.loop-x.invariant.1 (sym c.without_variables.ensures ∙ c.loop-x-test.true) c.field-x.ensures.is).0

pub loop-x-preserved : goal.loop-x-preserved
loop-x-preserved c = let m = bare_more _ _ c.requires.promise c.loop-x.invariant.0 c.loop-x.invariant.1 (sym c.without_variables.ensures ∙ c.loop-x-test.true) c.field-x.ensures.is in (omega (arith, m.0, c.loop-x.invariant.0), m.1)

pub returns : goal.returns
returns c = record { here = c.loop-x.invariant.0; some = sym c.without_variables.ensures ∙ c.loop-x-test.false; is = c.loop-x.invariant.1 }

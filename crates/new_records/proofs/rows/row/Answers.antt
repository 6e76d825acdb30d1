use Prim.Native.Nat.{ℕ}
use native.Mathlib.Omega.{arith}
use lib.ListN.{length-replicate}
use Rattle.basics.proofs.Places.{at_length}
use Rattle.new_records.proofs.Filled.{begun, begun_more, begun_all}
use Rattle.new_records.proofs.rows.row.Goals as goal

pub loop-field-init : goal.loop-field-init
loop-field-init g c = begun _ _

pub loop-field-preserved : goal.loop-field-preserved
loop-field-preserved g c = begun_more c.loop-field.invariant (omega (arith, c.well_formed)) (omega (arith, length-replicate {A = ℕ} g.row.BYTES 0, g.BYTES.fits)) (at_length c.put_word-at.ensures) c.put_word-at.ensures

pub returns : goal.returns
returns g c = begun_all c.loop-field.invariant (omega (arith, c.well_formed)) (omega (arith, length-replicate {A = ℕ} g.row.BYTES 0, c.requires, c.well_formed))

use Rattle.basics.proofs.Bits.{shifted_one, bit_room, bit_missing}
use Rattle.basics.proofs.bit.with_bit.Goals as goal

pub overflow_add-result : goal.overflow_add-result
overflow_add-result c = record { fits = rw (shifted_one c.args.i c.requires.0) (bit_room _ _ c.requires.0 c.requires.1 c.ranges.byte.fits) }

pub returns : goal.returns
returns c = rw (shifted_one c.args.i c.requires.0) (bit_missing _ _ c.requires.1)

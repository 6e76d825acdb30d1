use Rattle.basics.specs.Bits.{has_bit}
use Rattle.basics.proofs.Bits.{power_two}
use Rattle.basics.proofs.bit.has_bit.Goals as goal

pub returns : goal.returns
unfolding has_bit
returns c = rw (power_two c.args.i c.requires)

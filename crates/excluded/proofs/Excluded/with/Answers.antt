use native.Mathlib.Omega.{arith}
use mathlib.Core.Path.{sym, ◌∙◌}
use Rattle.excluded.proofs.Sets.{joined_new, bit_of}
use Rattle.excluded.proofs.Excluded.with.Goals as goal

pub with_bit-requires : goal.with_bit-requires
with_bit-requires c = (omega arith, bit_of _ _ ∙ sym c.has.ensures ∙ c.if-has.false)

pub returns : goal.returns
returns c = joined_new _ _ c.with_bit.ensures c.args.self.now.long c.requires
